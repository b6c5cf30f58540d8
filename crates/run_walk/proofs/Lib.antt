pub mod Plain
pub mod Composing
pub mod Equating
