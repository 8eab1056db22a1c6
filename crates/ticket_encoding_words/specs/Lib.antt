-- What writing leaves in the buffer, and what may be written.
pub mod Writing
pub mod Loops
