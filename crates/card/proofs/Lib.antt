-- Laws of the trip card.
pub mod Fields
pub mod Words
pub mod Made
pub mod Shown
pub mod Stored
pub mod RoundTrip
pub mod Crossing
pub mod Entries
mod Examples
