pub mod Solving
pub mod Running
