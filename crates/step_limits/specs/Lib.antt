-- What the contracts on rows, limits, sides and loops speak of.
pub mod Small
pub mod Makes
pub mod Words
pub mod Change
