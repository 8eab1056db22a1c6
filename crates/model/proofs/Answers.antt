-- Laws of answers: taken apart, put together, and of items checked one after another.
pub mod AnswerLaws
pub mod PassLaws
pub mod CheckLaws
