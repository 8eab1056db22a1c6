-- The judgement of steps and the entries: what acceptance gives and what each refusal shows.
pub mod SmallLaws
pub mod JudgeStepLaws
pub mod JudgeLaws
pub mod StageLaws
pub mod VerdictLaws
pub mod EntryLaws
pub mod RunLaws
pub mod SameVectorsLaws
