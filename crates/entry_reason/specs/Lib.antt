-- What the crate's contracts speak of.
pub mod Records
pub mod Finders
