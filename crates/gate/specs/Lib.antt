pub mod Gates
pub mod Lock
