-- Flat nests and their abstraction to the model's loops; what each function asks and gives.
pub mod Sides
pub mod Ranges
