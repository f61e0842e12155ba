pub mod Attributes
pub mod Entries
