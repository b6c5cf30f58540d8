pub mod Names
pub mod Digits
pub mod Padded
