pub mod Words
pub mod Constants
pub mod Trying
pub mod Places
pub mod Ways
pub mod Follows
pub mod Struck
