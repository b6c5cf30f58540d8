pub mod Batch
pub mod Entry
pub mod Steps
pub mod Worked
