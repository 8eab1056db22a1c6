-- Laws of sets of marks (VectorLaws, SetLaws), of the model's tables read backwards (StepLaws, SkewLaws), and what they come to for the functions
-- (AfterLaws, EmptyLaws, BackLaws) and for the judgement (JudgeLaws).
pub mod VectorLaws
pub mod SetLaws
pub mod StepLaws
pub mod SkewLaws
pub mod AfterLaws
pub mod EmptyLaws
pub mod BackLaws
pub mod JudgeLaws
pub mod Examples
