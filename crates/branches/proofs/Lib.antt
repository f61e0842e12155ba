pub mod Standing
pub mod Names
pub mod Joining
pub mod Texts
pub mod Marking
