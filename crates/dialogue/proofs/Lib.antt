-- The laws of `dialogue`.
pub mod TextLaws
pub mod Hearing
pub mod RoundTrip
