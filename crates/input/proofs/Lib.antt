pub mod Feeding
pub mod Kept
pub mod Places
pub mod Digits
