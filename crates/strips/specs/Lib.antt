pub mod Strips
pub mod Ends
pub mod Classes
