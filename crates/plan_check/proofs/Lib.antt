-- Laws of what is wrong with a plan that arrays hold.
pub mod FoundLaws
