-- Laws of plans, for the crates above.
pub mod TestLaws
pub mod PlaceLaws
pub mod SpellingLaws
pub mod ValidLaws
pub mod StepLaws
pub mod SoundLaws
pub mod FrontLaws
pub mod AcceptLaws
pub mod RefusalLaws
pub mod AnswerLaws
pub mod BlankLaws
pub mod PartLaws
pub mod Examples
pub mod OrderLaws
