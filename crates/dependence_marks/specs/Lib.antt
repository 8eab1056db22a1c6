-- What the crate's contracts speak of: the statement of each access, then the marks of a nest's lines and the directions that they show.
pub mod Uses
pub mod Lines
