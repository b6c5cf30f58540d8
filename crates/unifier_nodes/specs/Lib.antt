pub mod Work
pub mod Walks
pub mod States
pub mod Promises
pub mod Operands
