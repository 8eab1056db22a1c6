-- What the crate's contracts speak of: the run by the numbers of the accesses, and what `run_at_points` asks of a flat nest.
pub mod Flat
pub mod Runs
