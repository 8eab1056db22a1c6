-- Refusal 10 of the entry `judge`, of an admitted ticket: at a step that is reached exactly if a direction then points backwards; and while all steps so
-- far exchange or reverse, exactly if two conflicting instances trade places at it.
use mathlib.Core.Path.{◌≡◌, sym, subst, ◌∙◌}
use mathlib.Core.Logic.{◌↔◌, ⊎_elim}
use mathlib.Core.List.{List, [], ◌∷◌, ◌++◌}
use Prim.Native.Nat.{ℕ, ◌+◌}
use native.Mathlib.Omega.{arith}
use lib.Dec.{T}
use lib.ListN.{length}
use Rattle.lists.specs.Membership.{All}
use Rattle.model.specs.Answer.{Answer, accepted, refused}
use Rattle.model.specs.Ticket.{Step, Ticket}
use Rattle.model.specs.Points.{iterations}
use Rattle.model.specs.Steps.{vectors_after, vectors_after_all, some_points_back}
use Rattle.model.specs.Judge.{admit_of, judge_steps, judge_ticket, directions_of}
use Rattle.model.specs.Entries.{judge_of}
use Rattle.model.specs.Reasons.{StepsPass}
use Rattle.model.specs.Promises.{Turns, Trade}
use Rattle.model.proofs.Answers.PassLaws.{bind-stop}
use Rattle.model.proofs.Grammar.GrammarLaws.{Sound}
use Rattle.model.proofs.Verdict.JudgeLaws.{ten-exact, refused-judge_steps}
use Rattle.model.proofs.Verdict.VerdictLaws.{verdict, admit-accepted, admitted-judged, judge_ticket-refused}
use Rattle.model.proofs.Verdict.EntryLaws.{judge-refused}
use Rattle.model.proofs.Promise.TradeLaws.{ten-trades}

module _ (d : Answer Ticket) (K : Ticket) (a : admit_of d ≡ accepted K) where
  judged-steps : (p : ℕ) → (judge_of d ≡ refused 10 p) ↔ (judge_steps 1 K.steps (directions_of K.nest) K.nest ≡ refused 10 p)
  unfolding judge_of judge_ticket
  judged-steps p = (
    λ e. ⊎_elim (λ r. refused-judge_steps 1 K.steps (directions_of K.nest) K.nest r)
        (λ r. absurd (⊎_elim (λ f. let q = f.0 in omega arith) (λ f. let q = f.0 in omega arith) r.1.reason))
        (judge_ticket-refused K (sym (admitted-judged d a) ∙ judge-refused d e)),
    λ e. bind-stop (λ j. accepted (length (iterations j.ticket.nest.loops))) (admitted-judged d a ∙ bind-stop (verdict K) e),
  )

  module _ (front : List Step) (t : Step) (back : List Step) (parts : K.steps ≡ front ++ t ∷ back)
      (reached : StepsPass front (directions_of K.nest) K.nest) where
    Refused : List Step → Type 0
    Refused ts = judge_steps 1 ts (directions_of K.nest) K.nest ≡ refused 10 (1 + length front)

    at-step : {X : Type 0} → Refused (front ++ t ∷ back) ↔ X → (judge_of d ≡ refused 10 (1 + length front)) ↔ X
    unfolding Refused
    at-step x = let s = judged-steps (1 + length front) in (λ f. x.0 (subst Refused parts (s.0 f)), λ f. s.1 (subst Refused (sym parts) (x.1 f)))

    pub judge-ten : (judge_of d ≡ refused 10 (1 + length front)) ↔ T
        (some_points_back (vectors_after t (vectors_after_all front (directions_of K.nest))))
    unfolding Refused
    judge-ten = at-step (ten-exact 1 front t back (directions_of K.nest) K.nest reached)

    pub judge-trades : Sound d → All Turns (front ++ t ∷ []) → (judge_of d ≡ refused 10 (1 + length front)) ↔ Trade K.nest front t
    unfolding Refused
    judge-trades sound turns = at-step (ten-trades K.nest front t turns reached (sound.formed (admit-accepted d a).0) 1 back)
