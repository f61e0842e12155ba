pub mod Reading
pub mod Sending
