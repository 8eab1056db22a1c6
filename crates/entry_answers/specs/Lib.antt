-- What the entries' contracts speak of.
pub mod Answers
