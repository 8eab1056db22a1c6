-- Laws that the crate's contracts need, and what a corner is for.
pub mod PlaceLaws
pub mod ShortenLaws
