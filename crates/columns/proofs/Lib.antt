-- Laws of columns of a buffer, and of tables.
pub mod ColumnLaws
pub mod TileLaws
