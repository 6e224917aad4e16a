pub mod Cuts
pub mod Lines
pub mod Paths
pub mod Reading
pub mod Words
