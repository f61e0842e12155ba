pub mod Writing
pub mod Pens
