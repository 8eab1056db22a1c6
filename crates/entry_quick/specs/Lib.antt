-- What the entry answers.
pub mod Answers
