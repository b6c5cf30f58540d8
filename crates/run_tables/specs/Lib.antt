pub mod Output
pub mod Standing
pub mod Writing
