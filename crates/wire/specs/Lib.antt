-- What the contracts of `wire` cite.
pub mod Splice
pub mod Little
pub mod Real
pub mod Flags
