-- The flat data of a nest, the model's statements that they stand for, and what the whole search asks and gives.
pub mod Flat
pub mod Nests
