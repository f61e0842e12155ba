pub mod Words
pub mod Records
pub mod Trails
pub mod Classes
pub mod Start
pub mod Titles
