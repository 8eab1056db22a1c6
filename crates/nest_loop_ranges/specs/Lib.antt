-- Ranges in an array, and what each function asks and gives.
pub mod Ranges
pub mod Extremes
pub mod Values
