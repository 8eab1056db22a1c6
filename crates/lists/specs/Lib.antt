-- Lists as every crate of the project speaks of them.
pub mod Membership
pub mod Order
pub mod Place
pub mod Parts
pub mod Tests
