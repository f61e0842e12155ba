pub mod Tried
pub mod Struck
