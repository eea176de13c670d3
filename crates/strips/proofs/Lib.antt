-- Laws of strips and of classes, for the crates above.
pub mod StripLaws
pub mod SizeLaws
pub mod CombinationLaws
pub mod RestLaws
pub mod ClassLaws
pub mod TableLaws
pub mod HeldLaws
pub mod SplitLaws
