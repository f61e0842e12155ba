pub mod Sets
pub mod Search
pub mod Bytes
pub mod Words
