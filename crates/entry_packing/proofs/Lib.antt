-- Laws that the crate's contracts need.
pub mod PackLaws
pub mod Fields
