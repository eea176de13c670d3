-- Laws for this crate's functions.
pub mod GivenLaws
