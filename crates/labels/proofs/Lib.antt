pub mod Digits
pub mod Laws
pub mod Search
pub mod Places
pub mod Words
