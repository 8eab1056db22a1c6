-- The verdict's answer is the model's `judge`.
use mathlib.Core.Path.{◌≡◌, ◌∙◌, ap}
use mathlib.Core.List.{List}
use lib.IntN.{ℤ}
use Rattle.std.specs.Prelude.{Result, Ok, Err}
use lib.ListN.{length}
use Rattle.model.specs.Answer.{accepted, ◌>>=◌}
use Rattle.model.specs.Grammar.{decode}
use Rattle.model.specs.Points.{iterations}
use Rattle.model.specs.Judge.{Judged}
use Rattle.model.specs.Entries.{judge, judge_of}
use Prim.Native.Nat.{ℕ}
use Rattle.ticket_refusals.specs.declared.Refusal.{Refusal}
use Rattle.ticket_refusals.specs.Refusals.{refusal}
use Rattle.step_judgement.specs.Judgement.{answer_with}
use Rattle.ticket_judgement.specs.declared.Decided.{Decided}
use Rattle.ticket_judgement.specs.Verdicts.{judged_with, Decides}

module _ (b : List ℕ) (l w : List ℤ) where
  whole : (x : Result Decided Refusal) (h : Decides (decode b) x l w) → (answer_with (judged_with h.ticket l w) x >>=
      (λ (j : Judged). accepted (length (iterations j.ticket.nest.loops)))) ≡ judge b
  unfolding judge_of
  whole x h = ap (◌>>= (λ (j : Judged). accepted (length (iterations j.ticket.nest.loops)))) h.same

  pub judge-refused : (r : Refusal) → Decides (decode b) (Err r) l w → refusal r ≡ judge b
  unfolding ◌>>=◌
  judge-refused r h = whole (Err r) h

  pub judge-accepted : (d : Decided) → Decides (decode b) (Ok d) l w → accepted d.count ≡ judge b
  unfolding ◌>>=◌
  judge-accepted d h = ap accepted h.known.count ∙ whole (Ok d) h
