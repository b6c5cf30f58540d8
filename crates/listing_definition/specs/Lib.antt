pub mod Listing
pub mod Exactly
pub mod Turns
pub mod Worked
