pub mod Chains
pub mod Index
