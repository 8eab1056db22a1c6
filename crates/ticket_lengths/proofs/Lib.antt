-- Sums, the loops that make them, and that they are the lengths of the words.
pub mod SumLaws
pub mod SliceLaws
pub mod LengthLaws
