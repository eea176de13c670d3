-- Laws of the definitions, for this crate's functions and for every crate above.
pub mod Cases
pub mod EachLaws
pub mod GcdLaws
pub mod InverseLaws
pub mod DigitLaws
pub mod NumeratorLaws
pub mod DepthLaws
pub mod ReciprocalLaws
pub mod CountLaws
pub mod ListedLaws
pub mod JoinedLaws
