pub mod Calls
pub mod Gathering
