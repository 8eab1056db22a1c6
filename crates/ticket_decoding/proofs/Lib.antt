-- The sections of a ticket, and the flat nest that they are laid on.
pub mod StatementBack
pub mod FlatNestLaws
pub mod SectionLaws
pub mod DecodeLaws
