pub mod Prepared
pub mod Defined
