-- Laws of one row's entry.
pub mod EntryLaws
pub mod RowLaws
pub mod Writes
pub mod Entries
