pub mod Lines
pub mod Numbers
pub mod Asking
pub mod Answers
