pub mod SecondPass
pub mod LatePlace
pub mod Converting
pub mod TwoPasses
