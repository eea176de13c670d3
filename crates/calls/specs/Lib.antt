pub mod Calls
pub mod Exchange
pub mod Slots
pub mod Steps
pub mod History
pub mod OneStart
pub mod Demand2
