-- Flat slices with the loops of a nest laid over them, and what reading gives.
pub mod Laid
pub mod LoopReads
