-- What the crate's contracts speak of: subscripts over the ranges of the loops, the box that the ranges make, and what each answer promises.
pub mod Subscripts
pub mod Boxes
pub mod Promises
