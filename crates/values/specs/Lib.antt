pub mod Numbers
pub mod Integers
pub mod Computed
pub mod Decimal
pub mod Refusals
pub mod Labelled
pub mod Answers
