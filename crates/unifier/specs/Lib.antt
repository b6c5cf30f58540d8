pub mod Choices
pub mod Accesses
