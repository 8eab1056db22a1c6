-- Laws of what `specs` defines.
pub mod FlatLaws
pub mod UseLaws
pub mod MeetLaws
pub mod KindLaws
pub mod OrderLaws
pub mod MarkLaws
pub mod WitnessLaws
