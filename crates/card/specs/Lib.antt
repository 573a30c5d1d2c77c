-- What the contracts of `card` cite.
pub mod Card
pub mod Asked
