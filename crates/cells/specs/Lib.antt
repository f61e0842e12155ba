pub mod Chains
pub mod Layout
pub mod Scopes
pub mod Slots
pub mod Memory
