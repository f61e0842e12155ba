pub mod Laws
pub mod Fields
pub mod Walks
pub mod Options
mod Signed
pub mod Horner
