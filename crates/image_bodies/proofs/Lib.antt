pub mod BlockReaders
pub mod Nested
pub mod Spans
