pub mod Told
pub mod Doors
pub mod Reading
pub mod Writing
pub mod Speaking
