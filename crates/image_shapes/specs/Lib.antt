pub mod Sizes
pub mod Shapes
