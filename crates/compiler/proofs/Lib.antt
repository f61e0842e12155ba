pub mod Items
pub mod Whole
pub mod EditRule
pub mod Starred
