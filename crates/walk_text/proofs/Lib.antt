pub mod PutLaws
pub mod ArrayLaws
pub mod WalkLaws
