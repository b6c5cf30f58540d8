pub mod KindTable
pub mod Dispatch
pub mod Loops
pub mod Cycle
