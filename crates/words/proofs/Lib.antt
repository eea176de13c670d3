pub mod WordLaws
pub mod DecimalLaws
pub mod HexLaws
