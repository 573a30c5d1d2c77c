pub mod Speaking
pub mod Delivered
