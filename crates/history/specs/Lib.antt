pub mod Runs
pub mod Events
pub mod Laws
