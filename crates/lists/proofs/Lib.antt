-- Laws of what `specs` defines, and of `flat_map`.
pub mod MembershipLaws
pub mod OrderLaws
pub mod FlatMapLaws
pub mod PlaceLaws
pub mod SwapLaws
pub mod TestLaws
pub mod PartLaws
pub mod CopyLaws
