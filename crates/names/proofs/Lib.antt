pub mod Decimals
pub mod Numbers
