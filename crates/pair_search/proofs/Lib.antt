-- Laws: the pairs of two iterations by number, the conflicts of two points, the words of all records, the records found in flat data, and what a
-- search asks at each stage.
pub mod BlockLaws
pub mod ConflictLaws
pub mod WordLaws
pub mod RecordLaws
pub mod SearchLaws
pub mod Witness
