-- Laws of what `specs` defines.
pub mod HornerLaws
pub mod NumberLaws
pub mod DepthLaws
pub mod VectorLaws
pub mod CandidateLaws
