pub mod Reading
pub mod Places
pub mod Numbers
