-- Laws over plain lists that the proofs of the crate's functions cite, and laws on a flat nest whose accesses a step changed.
pub mod StepLaws
pub mod FormLaws
pub mod ChangeLaws
pub mod AccessLaws
pub mod FlatNestLaws
