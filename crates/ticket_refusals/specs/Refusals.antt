-- Document 01's number and place of a refusal, and the answer that a result stands for.
use Rattle.std.specs.Prelude.{ℕ, Result, Ok, Err}
use Rattle.model.specs.Answer.{Answer, accepted, refused}
use Rattle.ticket_refusals.specs.declared.Refusal.{Refusal}
use Rattle.ticket_refusals.specs.declared.Refusal.TheVariants.{Truncated, TrailingBytes, CountOutOfRange, WordOutOfRange, TooManyElements, LoopOutOfNest, IndexOutOfRange, TooManyPoints, SubscriptOutOfBounds, DependenceReversed, TooManyLimits, NumberOutOfRange, NewNestTooLarge, BufferTooShort, OpaqueRule, WrongStoreLength}

-- torn, overhang, bad count, bad word, overfull, off the nest; far index, crowded, off the array; out of order, limits full, big number; sprawl;
-- short buffer, opaque, wrong store
abbrev pub number_of : Refusal → ℕ
number_of (Truncated p) = 1
number_of (TrailingBytes p) = 2
number_of (CountOutOfRange p) = 3
number_of (WordOutOfRange p) = 4
number_of (TooManyElements p) = 5
number_of (LoopOutOfNest p) = 6
number_of (IndexOutOfRange p) = 7
number_of (TooManyPoints p) = 8
number_of (SubscriptOutOfBounds p) = 9
number_of (DependenceReversed p) = 10
number_of (TooManyLimits p) = 11
number_of (NumberOutOfRange p) = 12
number_of (NewNestTooLarge p) = 13
number_of BufferTooShort = 14
number_of (OpaqueRule p) = 15
number_of WrongStoreLength = 16

abbrev pub place_of : Refusal → ℕ
place_of (Truncated p) = p
place_of (TrailingBytes p) = p
place_of (CountOutOfRange p) = p
place_of (WordOutOfRange p) = p
place_of (TooManyElements p) = p
place_of (LoopOutOfNest p) = p
place_of (IndexOutOfRange p) = p
place_of (TooManyPoints p) = p
place_of (SubscriptOutOfBounds p) = p
place_of (DependenceReversed p) = p
place_of (TooManyLimits p) = p
place_of (NumberOutOfRange p) = p
place_of (NewNestTooLarge p) = p
place_of BufferTooShort = 0
place_of (OpaqueRule p) = p
place_of WrongStoreLength = 0

abbrev pub refusal : {A : Type 0} → Refusal → Answer A
refusal r = refused (number_of r) (place_of r)

-- what a result stands for: the value, or the number and the place of the refusal
abbrev pub answer_of : {A : Type 0} → Result A Refusal → Answer A
answer_of (Ok a) = accepted a
answer_of (Err r) = refusal r
