pub mod Lending
pub mod RunParts
pub mod WholeRun
pub mod SolvedLaws
