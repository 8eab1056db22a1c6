-- What the crate's contracts speak of: arrays and accesses in flat slices, and what each function asks and gives.
pub mod Search
pub mod Forms
pub mod Places
pub mod Nests
