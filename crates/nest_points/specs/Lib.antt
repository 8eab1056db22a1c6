-- What a survey counts and what a collection stores.
pub mod Tallies
pub mod Surveys
pub mod Stored
pub mod Nests
