pub mod Commands
pub mod Answers
