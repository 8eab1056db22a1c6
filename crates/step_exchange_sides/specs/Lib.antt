-- What the contracts on sides under way speak of.
pub mod Filling
