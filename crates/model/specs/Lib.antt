-- Document 01 as definitions, in the order of its sections.
pub mod Answer
pub mod Words
pub mod Ticket
pub mod Grammar
pub mod Points
pub mod Bounds
pub mod Machine
pub mod Directions
pub mod Steps
pub mod Limits
pub mod Judge
pub mod Encode
pub mod Listing
pub mod Quick
pub mod Store
pub mod Entries
pub mod Pairs
pub mod Cases
pub mod Readings
pub mod ReasonCases
-- propositions that the theorems speak of
pub mod Inside
pub mod Shape
pub mod Ranges
pub mod Roles
pub mod Reasons
pub mod Promises
