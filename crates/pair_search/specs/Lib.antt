-- What the crate's contracts speak of.
pub mod Searches
pub mod Rooms
pub mod PairSearches
