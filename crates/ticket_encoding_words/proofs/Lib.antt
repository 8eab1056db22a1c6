-- Laws that the proofs of more than one function share, or that stand on their own.
pub mod WritingLaws
pub mod SectionLaws
