pub mod Limits
pub mod Minutes
pub mod Availabilities
pub mod Assessed
pub mod Quarters
pub mod Watches
