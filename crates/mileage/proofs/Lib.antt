pub mod Payments
pub mod Products
pub mod Shares
