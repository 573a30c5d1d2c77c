pub mod Brief
pub mod Opening
pub mod Asked
pub mod Sending
