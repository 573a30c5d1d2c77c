pub mod Words
pub mod Exceptions
