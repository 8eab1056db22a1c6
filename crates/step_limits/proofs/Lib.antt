-- Laws over plain lists that the proofs of the crate's functions cite.
pub mod NumberLaws
pub mod RowLaws
pub mod LimitLaws
pub mod WordLaws
pub mod FlatLaws
