-- Laws of the walk over a run.
pub mod FlagLaws
