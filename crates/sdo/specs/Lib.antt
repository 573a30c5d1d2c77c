pub mod Eight
pub mod Entries
pub mod Long
