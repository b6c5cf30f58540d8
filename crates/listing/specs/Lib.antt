pub mod Entry
pub mod Rows
