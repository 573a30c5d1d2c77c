pub mod Real
pub mod LimitsLaws
mod Examples
pub mod NumberLaws
pub mod RowVerdicts
