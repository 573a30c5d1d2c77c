-- Laws of a crossed trip point.
pub mod CrossedLaws
mod Examples
