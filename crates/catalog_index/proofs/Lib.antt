pub mod Chains
pub mod Tests
pub mod Postings
pub mod Searching
pub mod Storing
pub mod Extending
pub mod Keeping
