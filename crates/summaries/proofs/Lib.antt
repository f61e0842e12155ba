pub mod Lines
pub mod Summaries
pub mod Walks
