pub mod Mail
pub mod Sealing
pub mod Lines
