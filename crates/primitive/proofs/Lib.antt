-- Laws that the proofs of this crate's functions cite.
pub mod TopLaws
pub mod FourLaws
pub mod PlaceLaws
pub mod ExponentLaws
