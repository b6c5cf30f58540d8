pub mod NameLogs
pub mod Accessing
pub mod Logging
pub mod Patterns
