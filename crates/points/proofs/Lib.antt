-- Laws of the points, for this crate's functions and for every crate above.
pub mod PointLaws
pub mod ArrayLaws
pub mod RunLaws
pub mod WordLaws
