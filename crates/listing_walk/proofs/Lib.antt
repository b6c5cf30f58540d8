pub mod Stacks
pub mod Marks
pub mod Pushing
pub mod Walks
pub mod Going
