pub mod Verdicts
pub mod Rooms
pub mod Running
pub mod Rows
