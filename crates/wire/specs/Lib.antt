pub mod Bytes
pub mod Numbers
pub mod Runs
pub mod Walks
pub mod Options
