pub mod Samples
pub mod Sums
pub mod Counted
pub mod Quarters
pub mod Signals
pub mod Laws
