pub mod Reading
pub mod NamedKinds
