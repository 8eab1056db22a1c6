-- Laws of ℤ and the solver for goals over it. `Examples` shows a dozen goals of the kinds that the project has, each proved in a line or two.
pub mod DifferenceLaws
pub mod RingLaws
pub mod Polynomial
pub mod Linear
pub mod Quote
pub mod OrderLaws
pub mod DivisionLaws
pub mod GcdLaws
pub mod RangeLaws
pub mod AffineLaws
pub mod SumLaws
pub mod SignLaws
pub mod Examples
