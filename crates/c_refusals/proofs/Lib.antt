-- Laws of the refusals.
pub mod RefusalLaws
