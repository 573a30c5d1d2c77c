pub mod Limits
pub mod Ranks
