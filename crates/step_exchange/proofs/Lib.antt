-- Laws over plain lists that the proofs of the crate's functions cite.
pub mod SolveLaws
pub mod SpanLaws
pub mod PairLaws
pub mod MadeLaws
pub mod BackLaws
pub mod NestLaws
pub mod AnswerLaws
