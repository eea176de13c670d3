-- Laws that the proofs of this crate's functions, and the crates above, cite.
pub mod DirectionLaws
pub mod SteppingLaws
pub mod Examples
