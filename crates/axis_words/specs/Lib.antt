pub mod Spelled
pub mod Parsed
