-- Laws of points with their numbers in front.
mod FrontLaws
mod RowLaws
