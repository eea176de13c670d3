-- Laws of the permutations, for this crate's functions and for every crate above.
pub mod FaureRules
pub mod HalvesLaws
pub mod FaureLaws
pub mod ReversalLaws
pub mod PermutationLaws
pub mod SieveLaws
pub mod KocisLaws
pub mod DescentLaws
pub mod TableLaws
pub mod FamilyLaws
