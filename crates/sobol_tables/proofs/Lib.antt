-- Laws of the table.
pub mod TableLaws
