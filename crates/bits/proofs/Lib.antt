-- Laws that other crates cite.
pub mod Numbers
pub mod Parts
pub mod Packing
pub mod Shifts
pub mod Words
pub mod Copying
