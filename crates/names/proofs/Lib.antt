pub mod Trimming
pub mod Comparisons
pub mod Pieces
