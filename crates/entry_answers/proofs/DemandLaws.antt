-- An entry whose answer is the definition's keeps demand 3.
use mathlib.Core.Path.{◌≡◌, sym, ◌∙◌, ap}
use mathlib.Core.Logic.{inl, inr}
use mathlib.Core.List.{List}
use Prim.Native.Nat.{ℕ}
use Rattle.model.specs.Entries.{judge, write, run_entry}
use Rattle.model.proofs.Demands.{demand-3}
use Rattle.std.specs.Prelude.{Result}
use Rattle.ticket_refusals.specs.declared.Refusal.{Refusal}
use Rattle.ticket_refusals.specs.Refusals.{answer_of}
use Rattle.entry_answers.specs.Answers.{OutcomeIs, Demand3}

pub judge-keeps : (b : List ℕ) (r : Result ℕ Refusal) → answer_of r ≡ judge b → (answer_of r ≡ judge b) × ((buffer store : List ℕ) → Demand3 b buffer store r)
judge-keeps b r e = (e, λ buffer store n q. demand-3 b buffer store (inl (n, sym e ∙ ap answer_of q)))

pub write_keeps : (b buffer m : List ℕ) (r : Result ℕ Refusal) → OutcomeIs (write b buffer) r m
    → OutcomeIs (write b buffer) r m × ((store : List ℕ) → Demand3 b buffer store r)
write_keeps b buffer m r h = (h, λ store n q. demand-3 b buffer store (inr (inl (n, sym h.answer ∙ ap answer_of q))))

pub run-keeps : (b store m : List ℕ) (r : Result ℕ Refusal) → OutcomeIs (run_entry b store) r m
    → OutcomeIs (run_entry b store) r m × ((buffer : List ℕ) → Demand3 b buffer store r)
run-keeps b store m r h = (h, λ buffer n q. demand-3 b buffer store (inr (inr (n, sym h.answer ∙ ap answer_of q))))
