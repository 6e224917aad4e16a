pub mod Accuracies
pub mod Limits
pub mod Laws
pub mod Running
