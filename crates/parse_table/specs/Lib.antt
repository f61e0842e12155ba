pub mod Codes
pub mod Stack
