pub mod Table
pub mod Repeats
pub mod Evaluating
pub mod Titled
