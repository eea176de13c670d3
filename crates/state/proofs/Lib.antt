-- Laws of the state.
pub mod SameLaws
pub mod PlanLaws
pub mod TableLaws
pub mod GenuineLaws
pub mod HistoryLaws
pub mod StateLaws
