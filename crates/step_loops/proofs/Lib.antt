-- Laws over plain lists that the proofs of the crate's functions cite.
pub mod HeldLaws
pub mod AfterLaws
pub mod StepLaws
pub mod ReversalLaws
pub mod ElementLaws
pub mod SectionLaws
pub mod ExchangeLaws
pub mod Witness
