pub mod Assigning
pub mod Entering
pub mod Conditions
pub mod Cases
