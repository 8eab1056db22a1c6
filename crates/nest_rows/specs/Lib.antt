-- What the contracts on rows speak of.
pub mod Rows
