pub mod Bills
