-- A nest with fewer points than another.
pub mod Subspaces
