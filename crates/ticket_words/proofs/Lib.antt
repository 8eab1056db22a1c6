-- Laws of the model's readers that the code's proofs share.
pub mod ReaderLaws
pub mod WordLaws
