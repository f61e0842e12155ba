pub mod Open
pub mod State
pub mod Shows
