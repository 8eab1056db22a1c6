-- The model's steps and tickets that this crate's structs stand for, and what reading them gives.
pub mod Steps
