pub mod AllFrom
pub mod KindRows
pub mod ReadingLaws
pub mod Naming
