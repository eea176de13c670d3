pub mod RowLaws
pub mod RunLaws
