pub mod Laws
pub mod Standing
pub mod Checks
pub mod Types
pub mod Classes
