pub mod Gray
pub mod Gf2
pub mod Polynomial
pub mod Power
