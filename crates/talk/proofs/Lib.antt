-- The laws of `talk`.
pub mod TurnLaws
pub mod Whole
