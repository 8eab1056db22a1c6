-- Laws that the proofs by hand need.
pub mod FillLaws
