pub mod Mileages
