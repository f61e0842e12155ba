pub mod Parts
pub mod Sums
pub mod Division
pub mod Same
pub mod Sizes
pub mod Digits
pub mod Reasons
