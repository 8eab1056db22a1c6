-- What the search of two accesses asks and sets.
pub mod Search
