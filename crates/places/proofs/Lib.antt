pub mod Tags
pub mod Levels
pub mod Parts
pub mod Open
pub mod Expressions
pub mod Statements
pub mod Items
mod Used
