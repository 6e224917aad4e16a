pub mod Limits
pub mod Readings
