-- What the crate's contracts speak of.
pub mod Chains
pub mod Partners
