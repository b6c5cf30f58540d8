pub mod Numbering
pub mod Blocks
