-- What is promised of accepted tickets.
pub mod TradeLaws
pub mod CirculationLaws
pub mod EntryStepLaws
pub mod PairLaws
pub mod TradedLaws
pub mod KeptLaws
pub mod WrittenLaws
pub mod PromiseLaws
pub mod ReasonLaws
pub mod ReasonToolLaws
pub mod WholeLaws
pub mod SizeLaws
pub mod FitLaws
