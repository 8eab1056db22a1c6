-- Laws of what `specs` defines.
pub mod RecordLaws
pub mod TicketLaws
pub mod PairLaws
pub mod FinderLaws
