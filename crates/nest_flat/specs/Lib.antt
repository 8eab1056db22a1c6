-- What the crate's contracts speak of: a flat nest and the model's nest that it stands for, then what each function asks and gives.
pub mod Flat
pub mod Layout
pub mod FlatNests
