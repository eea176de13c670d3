-- The discrepancy bound and what it rests on, for every crate above.
pub mod NearLaws
pub mod CutLaws
pub mod ThinLaws
pub mod FairLaws
pub mod BoundLaws
pub mod FitLaws
pub mod SlotLaws
