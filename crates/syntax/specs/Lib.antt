pub mod Before
pub mod Strings
pub mod Nodes
pub mod Names
pub mod Walked
