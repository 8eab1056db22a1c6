-- The answer of an entry that gives a count.
use Rattle.std.specs.Prelude.{◌≡◌, List, ℕ, Result, Ok}
use Rattle.model.specs.Grammar.{decode}
use Rattle.model.specs.Judge.{Judged}
use Rattle.model.specs.Entries.{Outcome}
use Rattle.model.specs.Promises.{Whole}
use Rattle.ticket_refusals.specs.declared.Refusal.{Refusal}
use Rattle.ticket_refusals.specs.Refusals.{answer_of}

-- the answer r, with the lent memory left as m, is the outcome o
pub record OutcomeIs (o : Outcome) (r : Result ℕ Refusal) (m : List ℕ) : Type 0 where
  pub answer : answer_of r ≡ o.answer
  pub memory : m ≡ o.memory

-- demand 3, wherever the entry accepts: of the ticket b, with whatever buffer write and whatever store run is lent
abbrev pub Demand3 : List ℕ → List ℕ → List ℕ → Result ℕ Refusal → Type 0
Demand3 b buffer store r = (n : ℕ) → r ≡ Ok n → (j : Judged) × Whole (decode b) buffer store j
