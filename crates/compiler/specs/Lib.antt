pub mod Compiled
pub mod Accepted
pub mod Running
