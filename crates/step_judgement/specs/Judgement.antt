-- Refusals 10 to 13 of an admitted nest in its flat form: the model's `judge_ticket`, a step at a time, then the new nest.
use Rattle.std.specs.Prelude.{◌≡◌, List, ℕ, ℤ, Result, Ok, Err, ⊤, IfOk}
use Rattle.lists.specs.Membership.{SameMembers}
use Rattle.model.specs.Answer.{Answer, accepted}
use Rattle.model.specs.Ticket as Model
use Rattle.model.specs.Bounds.{new_space}
use Rattle.model.specs.Ranges.{StepThere, NestRanges, TicketRanges}
use Rattle.model.specs.Shape.{WellFormed}
use Rattle.model.specs.Steps.{vectors_after_all}
use Rattle.model.specs.Limits.{nest_after_all}
use Rattle.model.specs.Judge.{judge_stages, judge_steps, directions_of, judge_ticket}
use Rattle.ticket_refusals.specs.Refusals.{refusal, answer_of}
use Rattle.ticket_refusals.specs.declared.Refusal.{Refusal}
use Rattle.ticket_refusals.specs.declared.Refusal.TheVariants.{TooManyLimits, NumberOutOfRange}
use Rattle.step_exchange.specs.declared.StepError.{StepError}
use Rattle.step_exchange.specs.declared.StepError.TheVariants.{TooManyLimits as Full, NumberOutOfRange as Large}
use Rattle.ticket_steps.specs.Steps.{steps_of, StepsIn}
use Rattle.ticket_steps.specs.declared.Steps.{Steps}
use Rattle.step_directions.specs.Sets.{vectors_of}
use Rattle.step_directions.specs.declared.DirectionSet.{DirectionSet}
use Rattle.nest_flat.specs.declared.Header.{Header}
use Rattle.nest_flat.specs.FlatNests.{FlatNest, flat_nest, moved, nest_of, FlatNestIn}
use Rattle.step_kinds.specs.Kinds.{stage_of}
use Rattle.step_kinds.specs.declared.Stage.{Stage}
use Rattle.step_application.specs.Taking.{Takes}
use Rattle.ticket_decoding.specs.Ticket.{ticket_on}
use Rattle.step_judgement.specs.declared.Judged.{Judged}

-- ---- answers

-- a refusal, or what is answered without one
abbrev pub unless : {A : Type 0} → Result ⊤ Refusal → Answer A → Answer A
unless (Ok u) a = a
unless (Err r) a = refusal r

-- what a result stands for: f of the value, or the refusal
abbrev pub answer_with : {A B : Type 0} → (A → B) → Result A Refusal → Answer B
answer_with f (Ok a) = accepted (f a)
answer_with f (Err r) = refusal r

-- ---- one step

-- 11 or 12 of step k
abbrev pub stage_refusal : StepError → ℕ → Refusal
stage_refusal Full k = TooManyLimits k
stage_refusal Large k = NumberOutOfRange k

abbrev pub stage_answer : Result ⊤ StepError → ℕ → Result ⊤ Refusal
stage_answer (Ok u) k = Ok u
stage_answer (Err e) k = Err (stage_refusal e k)

-- a stage of step k was taken on these slices, and answered so
pub record StageTaken (t : Stage) (k : ℕ) (s : List ℤ) (c : List ℕ) (w : List ℤ) (o a : List ℕ) (depth : ℕ) (r : Result ⊤ Refusal) (s' : List ℤ)
    (c' : List ℕ) (w' : List ℤ) : Type 0 where
  pub stepped : Result ⊤ StepError
  pub takes : Takes (stage_of t) s c w o a depth stepped s' c' w'
  pub answered : r ≡ stage_answer stepped k

-- a header whose loops have become others
abbrev pub flat_nest_at : Header → ℕ → List ℤ → List ℕ → List ℤ → FlatNest
flat_nest_at O d l c w = moved (flat_nest O l w) d l c w

-- the loops that a step or a stage names are there
pub record TakeIn (P : FlatNest) (t : Model.Step) : Type 0 where
  pub flat-nest : FlatNestIn P
  pub there : StepThere P.depth t

-- step k was taken on P by the stages ts; where none was refused, the nest after them stands on these slices, with m loops
pub record Taken (ts : List Model.Step) (m k : ℕ) (P : FlatNest) (r : Result ⊤ Refusal) (l : List ℤ) (c : List ℕ) (w : List ℤ) : Type 0 where
  pub same : answer_of r ≡ judge_stages k ts (nest_of P)
  pub nest : r ≡ Ok tt → nest_of (moved P m l c w) ≡ nest_after_all ts (nest_of P)
  pub flat-nest : r ≡ Ok tt → FlatNestIn (moved P m l c w)

-- ---- a ticket

-- an admitted nest in its flat form, its steps, and marks that stand for its directions
pub record JudgeIn (P : FlatNest) (S : Steps) (s : DirectionSet) : Type 0 where
  pub flat-nest : FlatNestIn P
  pub steps : StepsIn S
  pub ranges : TicketRanges (ticket_on P S)
  pub formed : WellFormed (nest_of P)
  pub level : s.depth ≡ P.depth
  pub vectors : SameMembers (vectors_of s) (directions_of (nest_of P))

-- s has the vectors of the directions of P, carried through all steps, and as many signs as the new nest P' has loops
pub record DirectionsAfter (P : FlatNest) (S : Steps) (P' : FlatNest) (s : DirectionSet) : Type 0 where
  pub level : s.depth ≡ P'.depth
  pub vectors : SameMembers (vectors_of s) (vectors_after_all (steps_of S) (directions_of (nest_of P)))

-- 10 to 12 of all steps; the limits and words of P became l and w
pub record JudgesSteps (P : FlatNest) (S : Steps) (r : Result Judged Refusal) (l w : List ℤ) : Type 0 where
  pub same : answer_with (λ j. nest_of (flat_nest j.header l w)) r ≡ judge_steps 1 (steps_of S) (directions_of (nest_of P)) (nest_of P)
  pub flat-nest : IfOk r (λ j. FlatNestIn (flat_nest j.header l w))
  pub directions : IfOk r (λ j. DirectionsAfter P S (flat_nest j.header l w) j.directions)

-- 13
abbrev pub SurveyedNew : FlatNest → Result ⊤ Refusal → Type 0
SurveyedNew P r = answer_of r ≡ new_space (nest_of P).loops

-- the new nest of an accepted ticket
pub record New (P : FlatNest) : Type 0 where
  pub flat-nest : FlatNestIn P
  pub ranges : NestRanges 6 16 (nest_of P)
  pub formed : WellFormed (nest_of P)
  pub new-space-accepted : new_space (nest_of P).loops ≡ accepted tt

-- 10 to 13
pub record Judges (P : FlatNest) (S : Steps) (r : Result Judged Refusal) (l w : List ℤ) : Type 0 where
  pub same : answer_with (λ j. record { ticket = ticket_on P S; new = nest_of (flat_nest j.header l w) }) r ≡ judge_ticket (ticket_on P S)
  pub new-nest : IfOk r (λ j. New (flat_nest j.header l w))
  pub directions : IfOk r (λ j. DirectionsAfter P S (flat_nest j.header l w) j.directions)
