pub mod Strings
pub mod Appending
pub mod Subjects
pub mod Lines
