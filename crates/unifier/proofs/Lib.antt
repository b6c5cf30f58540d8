pub mod Checked
pub mod Candidates
pub mod Phis
pub mod Unifying
pub mod Accesses
