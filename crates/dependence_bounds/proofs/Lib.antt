-- Laws that the crate's contracts need.
pub mod CopyLaws
pub mod PairLaws
pub mod FewLaws
pub mod PartLaws
pub mod CoverLaws
pub mod BoundLaws
pub mod KnownLaws
