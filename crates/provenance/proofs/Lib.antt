pub mod Parts
pub mod Variables
pub mod Operands
pub mod Expressions
pub mod Selectors
pub mod Leaves
pub mod Notes
