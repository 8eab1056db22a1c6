-- The nest that slices stand for, how many words it has, and what the functions that count them ask.
pub mod Lengths
pub mod Slices
