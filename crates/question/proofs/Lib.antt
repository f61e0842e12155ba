mod Reading
pub mod Putting
pub mod NumberText
pub mod Laws
pub mod Lengths
pub mod Longer
mod Cases
