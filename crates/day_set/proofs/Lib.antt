-- Laws of day sets: each answer of each call on one, how it comes from the run's, and what calls in a row come to.
pub mod CaseLaws
pub mod OrderLaws
pub mod ExchangeLaws
pub mod DayLaws
pub mod HistoryLaws
pub mod ServingLaws
