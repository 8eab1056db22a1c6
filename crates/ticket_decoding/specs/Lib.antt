-- The model's ticket that a flat nest and steps stand for, and what decoding gives.
pub mod Ticket
