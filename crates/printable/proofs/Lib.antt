pub mod Spelling
pub mod OneField
pub mod InOrder
pub mod Tree
