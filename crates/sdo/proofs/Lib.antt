pub mod Facts
pub mod RoundTrip
pub mod HeardLaws
pub mod LongTrip
pub mod Carries
