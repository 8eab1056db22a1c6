-- Laws that the crate's contracts need.
pub mod Witness
pub mod DivisorLaws
pub mod DifferenceLaws
pub mod SearchLaws
pub mod NestLaws
