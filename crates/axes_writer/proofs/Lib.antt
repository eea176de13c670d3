-- Laws of what writing a part leaves in a buffer.
pub mod PartLaws
