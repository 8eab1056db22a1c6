-- Laws that the crate's contracts need.
pub mod Sides
pub mod LimitLaws
pub mod SideLaws
pub mod RangeLaws
