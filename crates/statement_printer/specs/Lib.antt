pub mod Passing
pub mod Holding
pub mod Labels
pub mod Brackets
pub mod Forms
pub mod Patterns
