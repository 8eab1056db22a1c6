-- What writing a nest asks of its slices, and what it leaves in the buffer.
pub mod Facts
pub mod Nests
pub mod Encodable
pub mod Encoding
