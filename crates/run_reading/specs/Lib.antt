pub mod Kinds
pub mod Reading
