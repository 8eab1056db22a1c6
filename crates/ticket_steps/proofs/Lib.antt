-- Laws of the steps that the code's proofs cite.
pub mod FactorLaws
pub mod StepLaws
pub mod OtherLaws
