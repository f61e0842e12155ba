pub mod Parts
pub mod Given
pub mod Notes
