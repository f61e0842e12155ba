pub mod Stores
pub mod Making
pub mod Growing
pub mod Standing
pub mod Search
pub mod Entries
pub mod Reading
pub mod Order
