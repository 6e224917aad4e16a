pub mod BillKeys
pub mod Totals
