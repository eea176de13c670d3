-- Laws of flags.
pub mod MarkLaws
