-- The ticket that a flat nest and its steps hold; decoding is the model's grammar of the bytes.
use Rattle.std.specs.Prelude.{◌≡◌, List, ◌≤◌, ℤ, length, Result, Ok, Err, IfOk}
use Rattle.lists.specs.Membership.{All}
use Rattle.integers.specs.Affine.{Within}
use Rattle.model.specs.Answer.{Answer, accepted}
use Rattle.model.specs.Ticket as Model
use Rattle.model.specs.Ranges.{Small, TicketRanges}
use Rattle.model.specs.Shape.{WellFormed}
use Rattle.model.specs.Grammar.{ticket_loops, nest_room, most_words}
use Rattle.ticket_refusals.specs.Refusals.{refusal}
use Rattle.ticket_refusals.specs.declared.Refusal.{Refusal}
use Rattle.nest_flat.specs.FlatNests.{FlatNest, flat_nest, nest_of, FlatNestIn}
use Rattle.ticket_steps.specs.Steps.{steps_of, StepsIn}
use Rattle.ticket_steps.specs.declared.Steps.{Steps}
use Rattle.ticket_decoding.specs.declared.Decoded.{Decoded}

unfoldable pub ticket_on : FlatNest → Steps → Model.Ticket
ticket_on P S = record { nest = nest_of P; steps = steps_of S }

-- ---- what decode answers

-- the slices that a ticket's limits and accesses are laid over
pub record Lent (limits words : List ℤ) : Type 0 where
  pub limits-length : length limits ≡ nest_room
  pub limits-small : Within 32767 limits
  pub words-length : length words ≡ most_words
  pub words_small : All Small words

-- the model's answer for a ticket that was read onto these limits and words
abbrev pub ticket_of : Result Decoded Refusal → List ℤ → List ℤ → Answer Model.Ticket
ticket_of (Ok d) limits words = accepted (ticket_on (flat_nest d.header limits words) d.steps)
ticket_of (Err r) limits words = refusal r

-- a flat nest and steps that hold a ticket of the grammar: within its ranges, and of at most four loops
pub record TicketIn (P : FlatNest) (S : Steps) : Type 0 where
  pub flat-nest : FlatNestIn P
  pub shallow : P.depth ≤ ticket_loops
  pub steps : StepsIn S
  pub ranges : TicketRanges (ticket_on P S)
  pub formed : WellFormed (nest_of P)

-- what the stages after reading ask of a ticket that was read: nothing where it is refused
pub record DecodedIn (read : Result Decoded Refusal) (limits words : List ℤ) : Type 0 where
  pub ticket : IfOk read (λ d. TicketIn (flat_nest d.header limits words) d.steps)

-- m is the model's answer; the lent slices became limits and words
pub record Decodes (m : Answer Model.Ticket) (read : Result Decoded Refusal) (limits words : List ℤ) : Type 0 where
  pub same : ticket_of read limits words ≡ m
  pub within : DecodedIn read limits words
