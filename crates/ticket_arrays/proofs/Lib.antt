-- Arrays that are laid and read back, then what reading lays.
pub mod RowLaws
pub mod ArrayBack
pub mod ShapeWrites
pub mod ArrayLaws
pub mod ReadLaws
