pub mod FirstLine
pub mod Answering
pub mod Placed
