-- Laws of the sections of a nest, then of a whole nest and of a flat nest.
pub mod SectionLaws
pub mod StatementLaws
pub mod EncodeLaws
pub mod Witness
