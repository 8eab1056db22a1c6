-- Laws of numbers of vectors, and of the digits that the code works on.
pub mod NumberLaws
pub mod DigitLaws
pub mod SourceLaws
pub mod ChainLaws
pub mod WeightLaws
