-- Numbers of vectors and places of marks; the vectors that are = at some loops.
pub mod Numbers
pub mod Candidates
