pub mod Layout
pub mod Making
pub mod Finding
