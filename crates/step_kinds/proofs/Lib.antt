-- Laws of chains and stages that the code's proofs cite.
pub mod ChainLaws
pub mod StageLaws
