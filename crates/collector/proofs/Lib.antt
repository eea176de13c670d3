pub mod LoopLaws
pub mod EndLaws
