pub mod Accounts
pub mod Days
pub mod Bills
pub mod States
pub mod Requests
pub mod Answers
pub mod Replies
