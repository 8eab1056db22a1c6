-- Laws that the crate's contracts need.
pub mod SubscriptLaws
pub mod RowLaws
pub mod LayoutLaws
pub mod ViolationLaws
pub mod FindLaws
pub mod ElementLaws
pub mod TotalLaws
pub mod FormLaws
pub mod PlaceLaws
pub mod NumberLaws
pub mod AdmittedLaws
pub mod Witness
pub mod NestLaws
pub mod NestArrayLaws
pub mod ClearLaws
