-- Laws of arithmetic over two elements, for the crates above.
pub mod XorLaws
pub mod GrayLaws
pub mod CombinationLaws
pub mod PolynomialLaws
pub mod PowerLaws
pub mod SquareLaws
pub mod OrderLaws
pub mod DegreeLaws
pub mod Examples
