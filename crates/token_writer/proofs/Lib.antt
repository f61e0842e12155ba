pub mod Writing
pub mod WhiteSpace
pub mod Strings
pub mod Numbers
pub mod Chains
pub mod Lengths
