pub mod Answer
pub mod Span
