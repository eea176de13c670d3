-- Laws of plans built from words.
pub mod BuildLaws
