pub mod CallLaws
pub mod CountLaws
