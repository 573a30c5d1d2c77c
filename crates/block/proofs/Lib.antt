-- Laws that other crates cite.
pub mod Entries
pub mod Kept
pub mod Judged
pub mod Walking
pub mod Turns
pub mod Zeros
pub mod Whole
pub mod RoundTrips
pub mod Straight
pub mod Tables
pub mod Theorems
pub mod Examples
