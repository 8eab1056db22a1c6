-- Laws that the crate's contracts need.
pub mod SubscriptLaws
pub mod InsideLaws
pub mod WidthLaws
pub mod BoxLaws
