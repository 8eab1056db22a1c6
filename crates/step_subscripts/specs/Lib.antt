-- What the contracts on subscripts speak of.
pub mod After
pub mod Relaid
