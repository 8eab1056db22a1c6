-- Laws that the crate's contracts need.
pub mod Witness
pub mod TermDifferenceLaws
pub mod MachineLaws
pub mod SpanLaws
pub mod SumLaws
pub mod RegionLaws
pub mod ExtentLaws
pub mod GcdExclusionLaws
pub mod CoverLaws
