pub mod Shapes
pub mod Registers
pub mod Held
pub mod Views
pub mod Taken
