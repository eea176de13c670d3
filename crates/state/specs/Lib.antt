pub mod State
pub mod History
