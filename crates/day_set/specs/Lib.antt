pub mod DaySet
pub mod Calls
pub mod Exchange
pub mod History
pub mod Serving
