-- Laws over plain lists that the proofs of the crate's functions cite.
pub mod SmallLaws
pub mod RowLaws
