-- Laws of windows.
pub mod Demand3
pub mod WindowLaws
pub mod RangeLaws
pub mod PlanLaws
pub mod LeadingLaws
