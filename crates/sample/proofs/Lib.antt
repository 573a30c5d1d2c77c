-- Laws that other crates cite.
pub mod SampleLaws
pub mod HiddenFaults
pub mod ImageLaws
pub mod Opened
pub mod WholeSamples
