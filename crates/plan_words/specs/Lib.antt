pub mod Says
pub mod Parsed
