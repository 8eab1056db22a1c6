-- Laws that the crate's contracts need.
pub mod FlatLaws
pub mod FlatNestLaws
pub mod Plain
