-- What the contracts of `talk` cite.
pub mod Turns
pub mod Run
