pub mod NoPay
