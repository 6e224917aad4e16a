pub mod Openings
pub mod Names
