pub mod Ends
pub mod Names
pub mod Statements
pub mod Blocks
pub mod Tables
pub mod Types
pub mod Classes
