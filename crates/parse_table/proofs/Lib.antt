pub mod Packed
pub mod Pushing
pub mod Counts
pub mod Bound
pub mod Answers
