pub mod Axis
pub mod Images
