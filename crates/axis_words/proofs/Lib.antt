-- Laws of the words of axes.
pub mod PartLaws
