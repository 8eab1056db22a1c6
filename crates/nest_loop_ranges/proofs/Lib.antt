-- Laws that the crate's contracts need.
pub mod TermLaws
pub mod ExtremeLaws
pub mod SumLaws
pub mod CutLaws
pub mod ValueLaws
pub mod RangeLaws
pub mod FreeLaws
