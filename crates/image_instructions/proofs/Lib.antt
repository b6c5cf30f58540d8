pub mod Forms
pub mod Steps
pub mod Readers
pub mod Items
pub mod Noting
pub mod Instructions
pub mod NotedMany
