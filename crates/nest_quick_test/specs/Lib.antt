-- What the difference of two subscripts can be, and what each function asks and gives.
pub mod Differences
pub mod Nests
