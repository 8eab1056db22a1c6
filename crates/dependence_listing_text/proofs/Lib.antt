-- Laws of what `specs` defines.
pub mod IndexLaws
pub mod TextLaws
pub mod LineLaws
pub mod WholeLaws
pub mod WitnessLaws
