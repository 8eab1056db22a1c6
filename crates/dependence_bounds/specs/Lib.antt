-- Pairs of accesses that are covered, a part of a flat nest, and what is known of a nest's lines.
pub mod Covered
pub mod KnownLines
pub mod AccessPairs
