-- What the contracts on sides and loops speak of.
pub mod Sides
pub mod Loops
pub mod Flips
