-- Sums of subscripts, what a direction vector says of them, and what each function asks and gives.
pub mod Sums
pub mod Spans
pub mod Covers
