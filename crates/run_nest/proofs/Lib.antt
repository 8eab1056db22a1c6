-- Laws that the crate's contracts need; then that every accepted ticket can be run.
pub mod PartLaws
pub mod ExecutionLaws
pub mod AcceptedLaws
