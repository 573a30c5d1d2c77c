-- What the contracts of `crossed` cite.
pub mod Crossed
pub mod Fitting
