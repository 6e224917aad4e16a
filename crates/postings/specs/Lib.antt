pub mod Limits
pub mod Postings
pub mod Keys
