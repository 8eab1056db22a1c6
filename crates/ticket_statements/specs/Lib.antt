-- Flat slices with accesses laid over them, and what reading gives.
pub mod Laid
pub mod Arrays
pub mod Statements
