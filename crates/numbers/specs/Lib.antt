pub mod Gcd
pub mod Digits
pub mod Depth
pub mod Count
pub mod Listed
pub mod Cut
