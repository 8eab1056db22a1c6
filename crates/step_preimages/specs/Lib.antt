-- Numbers of vectors, and where each mark of the set after a step is pulled from.
pub mod Numbers
pub mod Sources
pub mod Weights
