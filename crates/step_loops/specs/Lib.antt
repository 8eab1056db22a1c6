-- What the contracts on whole nests speak of.
pub mod After
pub mod Sections
