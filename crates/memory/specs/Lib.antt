pub mod Words
pub mod Names
pub mod Contexts
