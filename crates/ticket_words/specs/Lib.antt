-- What the answers of this crate's functions mean in the model.
pub mod Reached
pub mod Ranges
pub mod Reads
