pub mod Questions
pub mod Explained
