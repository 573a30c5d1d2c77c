pub mod Pressure
pub mod Settings
pub mod Samples
