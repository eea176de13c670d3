pub mod Fours
pub mod Powers
