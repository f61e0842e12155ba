pub mod Preparing
pub mod Noted
pub mod Searching
pub mod Whole
