-- Laws of what `specs` defines.
pub mod SomeLaws
pub mod ChainLaws
pub mod WalkLaws
pub mod FullLaws
pub mod SearchLaws
