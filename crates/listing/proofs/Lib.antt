pub mod RowWords
pub mod AfterRun
pub mod Answers
pub mod Entries
