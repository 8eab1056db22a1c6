-- Laws that the crate's contracts need.
pub mod UseLaws
pub mod ClearLaws
pub mod MarkLaws
pub mod DirectionLaws
