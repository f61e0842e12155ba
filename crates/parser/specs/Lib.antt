pub mod Doing
pub mod Stepping
pub mod Entering
pub mod Reading
