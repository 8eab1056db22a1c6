-- What the contracts on the sides of two loops, and on the pair, speak of.
pub mod Answers
pub mod Pair
