pub mod Standing
pub mod Types
pub mod Classes
