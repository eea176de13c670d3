-- Laws of the test.
pub mod LeftLaws
