pub mod Marking
pub mod Nodes
pub mod Definitions
pub mod Scopes
pub mod Gathering
