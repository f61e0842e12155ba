pub mod Numbers
pub mod Coming
