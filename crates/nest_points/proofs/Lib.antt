-- Laws that the crate's contracts need.
pub mod Witness
pub mod ThroughLaws
pub mod EndLaws
pub mod TallyLaws
pub mod StepLaws
pub mod WalkLaws
pub mod SurveyLaws
pub mod DepthLaws
pub mod CollectLaws
pub mod StoreLaws
pub mod ListLaws
pub mod NestLaws
