-- Laws of the day set's window count.
pub mod FirstLaws
pub mod CaseLaws
pub mod EndLaws
pub mod Demand3
