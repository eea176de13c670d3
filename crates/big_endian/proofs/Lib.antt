-- Laws that the proofs of the functions, and crates above, cite.
pub mod ByteLaws
