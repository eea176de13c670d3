-- Laws of the words of a plan.
pub mod WordLaws
