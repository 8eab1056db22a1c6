-- Laws over plain lists that the proofs of the crate's functions cite.
pub mod RunLaws
pub mod SideLaws
pub mod LoopLaws
pub mod MoveLaws
pub mod FlipLaws
