-- Laws that the crate's contracts need.
pub mod RuleLaws
pub mod BaseLaws
pub mod BodyLaws
pub mod NestLaws
pub mod Witness
