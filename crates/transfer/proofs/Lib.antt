pub mod RecordLaws
pub mod Kept
pub mod Plainly
