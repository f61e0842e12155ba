pub mod Ranges
pub mod Gathering
pub mod Finishing
pub mod Checking
pub mod Whole
