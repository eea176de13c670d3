pub mod StripLaws
pub mod OrderLaws
pub mod WorkLaws
