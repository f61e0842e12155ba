pub mod Checking
pub mod Searching
