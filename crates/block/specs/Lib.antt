-- What the contracts of `block` cite.
pub mod Block
pub mod Saved
pub mod Asked
