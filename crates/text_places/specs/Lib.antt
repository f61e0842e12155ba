pub mod Marks
pub mod Log
pub mod Places
