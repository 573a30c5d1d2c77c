pub mod Shapes
pub mod ColumnLaws
pub mod Way
