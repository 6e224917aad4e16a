pub mod Bounds
pub mod Directions
pub mod Division
pub mod Encoding
pub mod Exactly
