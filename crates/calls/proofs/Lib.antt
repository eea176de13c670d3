-- Laws of the calls: one for each answer, what is written, and what calls in a row come to.
pub mod CaseLaws
pub mod PointLaws
pub mod RowLaws
pub mod ExchangeLaws
pub mod RunLaws
pub mod HistoryLaws
pub mod OneStartLaws
pub mod ServerLaws
pub mod ServingLaws
pub mod RoundTrip
pub mod SlotLaws
