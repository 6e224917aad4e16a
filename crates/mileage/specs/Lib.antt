pub mod Mileage
pub mod Awards
