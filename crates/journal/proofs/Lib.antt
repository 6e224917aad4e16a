pub mod Ends
pub mod Numbers
pub mod Places
pub mod Requests
