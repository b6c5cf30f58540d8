pub mod Sizes
pub mod Shape
