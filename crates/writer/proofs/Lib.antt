-- Laws of what the writer leaves in a buffer.
pub mod PlanLaws
pub mod AnswerLaws
