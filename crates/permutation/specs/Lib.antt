pub mod Permutes
pub mod Faure
pub mod Kocis
pub mod Families
