-- Demand 3, undivided: one statement about the answers of judge, write and run, for a ticket, however it was read, and whatever is lent.
use mathlib.Core.Path.{◌≡◌, sym, ◌∙◌, ap, subst}
use mathlib.Core.Logic.{⊎_elim}
use mathlib.Core.List.{List}
use Prim.Native.Nat.{ℕ}
use lib.ListN.{length}
use Rattle.model.specs.Answer.{Answer, accepted, ◌>>=◌}
use Rattle.model.specs.Ticket.{Ticket}
use Rattle.model.specs.Grammar.{decode_nest}
use Rattle.model.specs.Points.{iterations}
use Rattle.model.specs.Judge.{Judged, judged_of}
use Rattle.model.specs.Encode.{encode}
use Rattle.model.specs.Entries.{judge_of, write_of, run_of}
use Rattle.model.specs.Promises.{HandedOut, Left, SomeAccepts, Whole}
use Rattle.model.proofs.Answers.AnswerLaws.{accepted-same}
use Rattle.model.proofs.Grammar.GrammarLaws.{Sound}
use Rattle.model.proofs.Verdict.RunLaws.{run-accepted}
use Rattle.model.proofs.Promise.PromiseLaws.{judged-gives, judged-promise, judge-counts, write-hands, run-leaves}

module _ (d : Answer Ticket) (sound : Sound d) (buffer words : List ℕ) where
  whole : {j : Judged} → judged_of d ≡ accepted j → Whole d buffer words j
  unfolding judge_of ◌>>=◌
  whole {j} e = record {
    verdict = e;
    ticket = (judged-gives d sound e).decoded;
    new = (judged-gives d sound e).new;
    orders = judged-promise d sound e;
    counts = ap (◌>>= (λ (k : Judged). accepted (length (iterations k.ticket.nest.loops)))) e;
    run-counts = λ {c} h. let r = run-accepted d words h in
        subst (λ (k : Judged). c ≡ length (iterations k.ticket.nest.loops)) (accepted-same (sym r.1.verdict ∙ e)) r.2;
    written = λ {c} h. let w = write-hands d sound buffer h in
        subst (λ (k : Judged). HandedOut (encode k.new) buffer c (write_of d buffer).memory ×
        (decode_nest (encode k.new) ≡ accepted k.new)) (accepted-same (sym w.1 ∙ e)) (w.2, w.3);
    left = λ h. let r = run-leaves d sound words h in
        subst (λ (k : Judged). Left k.ticket.nest words (run_of d words).memory) (accepted-same (sym r.1 ∙ e)) r.2;
  }

  pub accepted-whole : SomeAccepts d buffer words → (j : Judged) × Whole d buffer words j
  accepted-whole h =
      ⊎_elim (λ q. let r = judge-counts d q.1 in (r.0, whole r.1))
      (λ p. ⊎_elim (λ q. let r = write-hands d sound buffer q.1 in (r.0, whole r.1))
      (λ q. let r = run-leaves d sound words q.1 in (r.0, whole r.1)) p)
      h
