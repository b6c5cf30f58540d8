pub mod Entry
pub mod Run
