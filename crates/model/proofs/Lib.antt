-- Theorems about the definitions of `specs/`. `Demands` states what is promised; the rest proves it.
pub mod Demands
pub mod CaseLaws
pub mod Answers
pub mod Grammar
pub mod Points
pub mod Steps
pub mod Machine
pub mod Store
pub mod Listing
pub mod Quick
pub mod Verdict
pub mod Promise
