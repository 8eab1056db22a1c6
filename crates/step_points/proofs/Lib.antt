-- Laws over plain lists that the proofs of the crate's functions cite; those in TicketLaws are for callers.
pub mod GrowthLaws
pub mod IndexLaws
pub mod StepsLaws
pub mod MoveLaws
pub mod TicketLaws
pub mod Witness
