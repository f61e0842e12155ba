pub mod Answers
pub mod Operators
pub mod Known
