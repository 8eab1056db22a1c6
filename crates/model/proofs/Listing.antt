-- The lines of a listing: what each means, each once, and their order.
pub mod LineOrderLaws
pub mod LineLaws
pub mod ListingLaws
