-- Laws over plain lists that the proofs of the crate's functions cite.
pub mod SameLaws
pub mod PutLaws
pub mod FlatLaws
pub mod FillLaws
pub mod SideLaws
