pub mod Laws
pub mod Searches
pub mod Checking
pub mod Storing
pub mod Defaults
