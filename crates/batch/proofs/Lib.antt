pub mod Puts
pub mod Listed
pub mod NotRun
pub mod Outputs
pub mod Screens
pub mod Going
pub mod Done
