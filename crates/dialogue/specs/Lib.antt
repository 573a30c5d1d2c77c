-- What the contracts of `dialogue` cite.
pub mod Text
pub mod Lines
