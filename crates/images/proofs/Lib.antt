-- Laws of the tables of images.
pub mod DoubledLaws
pub mod ImageLaws
pub mod HalfLaws
