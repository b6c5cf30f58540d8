pub mod Occurring
pub mod Rewriting
pub mod RewriteOperands
