pub mod ApplyLaws
pub mod ApplyLoops
pub mod ApplyParts
