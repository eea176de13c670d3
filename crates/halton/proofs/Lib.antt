-- Laws of a Halton axis, for this crate's functions and for every crate above.
pub mod ImageLaws
pub mod AxisLaws
pub mod ReversingLaws
pub mod SteppingLaws
