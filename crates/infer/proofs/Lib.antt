pub mod RunWords
pub mod EntryWords
