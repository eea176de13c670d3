pub mod Plan
pub mod Reading
pub mod Order
pub mod Refusals
pub mod Answer
pub mod RefusalNumbers
pub mod Fields
