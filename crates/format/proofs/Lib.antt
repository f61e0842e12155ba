pub mod Table
pub mod Line
pub mod Listed
pub mod Undone
pub mod Steps
