pub mod EntryLaws
pub mod ListLaws
pub mod Sold
