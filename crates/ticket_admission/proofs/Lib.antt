-- Laws that the crate's contracts need.
pub mod CountedTicketLaws
pub mod AdmitLaws
