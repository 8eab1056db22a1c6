-- Laws that the crate's contracts need, and that decoded tickets meet them.
pub mod StepLaws
pub mod StageLaws
pub mod LoopLaws
pub mod TicketLaws
pub mod MetLaws
