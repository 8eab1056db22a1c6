-- What the crate's contracts speak of.
pub mod Conflicts
pub mod Statements
pub mod Windows
pub mod Walks
pub mod Nests
