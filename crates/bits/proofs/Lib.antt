-- Laws of the definitions, for this crate's functions and for every crate above.
pub mod StreamLaws
pub mod OverwriteLaws
pub mod PackLaws
pub mod ByteLaws
