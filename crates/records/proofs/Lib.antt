pub mod Values
pub mod Ranges
pub mod Laws
mod Ways
