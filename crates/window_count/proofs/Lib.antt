-- Laws of the window count.
pub mod CaseLaws
pub mod Demand3
pub mod PartLaws
pub mod OneStartLaws
pub mod StripLaws
