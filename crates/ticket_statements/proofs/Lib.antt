-- Accesses that are laid and read back, then what reading lays.
pub mod AccessLaws
pub mod StatementLaws
pub mod AccessBack
