-- Laws that the crate's contracts need.
pub mod TakingLaws
