-- Laws of tables over a Halton axis.
pub mod SplitLaws
pub mod TableLaws
