-- The text of a listing as it is made from marks.
pub mod Text
