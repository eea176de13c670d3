-- Laws that the proofs of the functions cite.
pub mod MsLaws
pub mod AxisLaws
pub mod AxesLaws
