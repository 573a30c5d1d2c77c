-- What one row's entry means in the values.
pub mod Entry
