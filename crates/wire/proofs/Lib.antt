-- Laws that other crates cite.
pub mod SpliceLaws
pub mod Overlaps
pub mod LittleLaws
pub mod RealLaws
pub mod FlagLaws
pub mod InARow
pub mod Writes
pub mod Turns
pub mod Stores
