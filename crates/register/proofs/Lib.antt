pub mod Basics
pub mod Positions
pub mod Laws
pub mod Sums
pub mod Views
pub mod Taken
