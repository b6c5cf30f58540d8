pub mod Sinks
pub mod Emitting
pub mod EmittedRows
pub mod Finishing
