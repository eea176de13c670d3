-- The reference table's theorem, and remarks beside it.
pub mod Rows
pub mod Remarks
