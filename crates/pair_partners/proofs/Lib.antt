-- Laws of what `specs` defines.
pub mod ChainLaws
pub mod PartnerLaws
pub mod Witness
