pub mod Directions
pub mod Stepping
