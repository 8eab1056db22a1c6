-- Laws of what `specs` defines.
pub mod StatementLaws
pub mod ClashLaws
pub mod ConflictLaws
pub mod RecordLaws
pub mod WindowLaws
pub mod PassLaws
pub mod BlockLaws
pub mod WalkLaws
pub mod WitnessLaws
pub mod NestLaws
