-- The tests before the run, one after the other, and the run.
use mathlib.Core.Path.{◌≡◌, refl, sym, ◌∙◌, ap, subst}
use mathlib.Core.Bool.{Bool}
use mathlib.Core.List.{List}
use Prim.Native.Nat.{ℕ}
use borrow.Author.Tests.{eq-eqb, ne_eqb}
use lib.Dec.{eqb}
use lib.ListN.{length}
use Rattle.std.specs.Prelude.{Option, Some, None, Ok, Err}
use Rattle.model.specs.Answer.{Answer, require, ◌>>◌, ◌>>=◌}
use Rattle.model.specs.Ticket.{Nest}
use Rattle.model.specs.Store.{run_nest}
use Rattle.ticket_refusals.specs.declared.Refusal.{Refusal}
use Rattle.ticket_refusals.specs.declared.Refusal.TheVariants.{OpaqueRule, WrongStoreLength}
use Rattle.ticket_refusals.specs.Refusals.{refusal}
use Rattle.entry_answers.specs.Answers.{OutcomeIs}
use Rattle.run_ticket.specs.Outcomes.{tested, outcome}

module _ (t c : ℕ) (M : Nest) (w : List ℕ) (k : Option ℕ) where
  refuse : (r : Refusal) → refusal r ≡ tested k t w → OutcomeIs (outcome (tested k t w) c M w) (Err r) w
  unfolding outcome
  refuse r e = subst (λ (a : Answer (Unit {0})). OutcomeIs (outcome a c M w) (Err r) w) e (record { answer = refl; memory = refl })

  pub opaque-found : (n : ℕ) → k ≡ Some n → OutcomeIs (outcome (tested k t w) c M w) (Err (OpaqueRule n)) w
  unfolding tested ◌>>◌ ◌>>=◌
  opaque-found n h = refuse (OpaqueRule n) (sym (ap (λ (o : Option ℕ). tested o t w) h))

  module _ (h : k ≡ None) where
    -- no statement is opaque
    clear : tested k t w ≡ require (eqb (length w) t) 16 0
    unfolding tested ◌>>◌ ◌>>=◌
    clear = ap (λ (o : Option ℕ). tested o t w) h

    pub wrong-length : (length w ≡ t → ⊥) → OutcomeIs (outcome (tested k t w) c M w) (Err WrongStoreLength) w
    unfolding require
    wrong-length g = refuse WrongStoreLength (sym (clear ∙ ap (λ (b : Bool). require b 16 0) (ne_eqb (length w) t g)))

    pub executed : length w ≡ t → (e : List ℕ) → e ≡ run_nest M w → OutcomeIs (outcome (tested k t w) c M w) (Ok c) e
    unfolding require outcome
    executed g e r = subst (λ (a : Answer (Unit {0})). OutcomeIs (outcome a c M w) (Ok c) e)
        (sym (clear ∙ ap (λ (b : Bool). require b 16 0) (eq-eqb (length w) t g))) (record { answer = refl; memory = r })
