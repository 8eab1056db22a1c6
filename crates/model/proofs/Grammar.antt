-- Reading tickets: what is accepted and in what ranges, why a ticket is refused with 1 to 6, and that words read back as what they say.
pub mod WordLaws
pub mod ReaderLaws
pub mod LoopReading
pub mod ArrayReading
pub mod StatementReading
pub mod StepReading
pub mod GrammarLaws
pub mod YieldLaws
pub mod NestYields
pub mod RoundTripLaws
pub mod TicketLaws
pub mod RoleLaws
pub mod FollowLaws
pub mod WalkLaws
pub mod WrongLaws
pub mod BriefLaws
pub mod CutLaws
