-- What the crate's contracts speak of. The laws about it, and the solver for goals over ℤ, are in `proofs/`.
pub mod Difference
pub mod Division
pub mod Gcd
pub mod Affine
pub mod Sign
