-- Flat slices with rows and arrays laid over them, and what reading gives.
pub mod Laid
pub mod Shapes
pub mod Arrays
