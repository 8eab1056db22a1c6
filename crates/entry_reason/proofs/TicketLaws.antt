-- A ticket that is refused with 10, read again: its flat form can be searched, and what is found is the ticket's.
use mathlib.Core.Path.{◌≡◌, sym, ap, ◌∙◌, subst}
use mathlib.Core.List.{List, []}
use Prim.Native.Nat.{ℕ, ◌≤◌}
use native.Mathlib.Omega.{arith}
use lib.IntN.{ℤ}
use lib.ListN.{length, take, length-map}
use lib.Seq.{length-take-le}
use Rattle.model.specs.Answer.{accepted, refused, ◌>>=◌}
use Rattle.model.specs.Ticket.{Ticket}
use Rattle.model.specs.Grammar.{decode}
use Rattle.model.specs.Points.{iterations}
use Rattle.model.specs.Bounds.{space, admitted}
use Rattle.model.specs.Entries.{judge}
use Rattle.model.proofs.Answers.AnswerLaws.{not-both, accepted-same}
use Rattle.model.proofs.Verdict.VerdictLaws.{admit-accepted, admitted-accepted}
use Rattle.model.proofs.Promise.ReasonToolLaws.{ten-admits, ten-reached}
use Rattle.model.proofs.Demands.{refusals-near}
use Rattle.ticket_refusals.specs.Refusals.{refusal}
use Rattle.ticket_refusals.specs.declared.Refusal.{Refusal}
use Rattle.std.specs.Prelude.{Result, Ok, Err}
use Rattle.nest_flat.specs.FlatNests.{FlatNest, flat_nest, nest_of}
use Rattle.ticket_steps.specs.Steps.{steps_of}
use Rattle.ticket_steps.specs.declared.Steps.{Steps}
use Rattle.ticket_decoding.specs.Ticket.{ticket_on, ticket_of}
use Rattle.ticket_decoding.specs.declared.Decoded.{Decoded}
use Rattle.ticket_admission.specs.CountedTickets.{Laid}
use Rattle.pair_records.specs.Windows.{batch_room}
use Rattle.pair_records.specs.declared.Walked.{Walked}
use Rattle.pair_search.specs.Searches.{SearchIn, Searched}
use Rattle.pair_search.proofs.SearchLaws.{admitted-inside}
use Rattle.entry_reason.specs.Finders.{TenAt, SearchedAt}

pub ten-at : (b : List ℕ) (k : ℕ) → judge b ≡ refused 10 k → TenAt b k
ten-at b k e = let r = ten-admits (decode b) [] (λ n p f. (refusals-near b n p f).0) k e in record { ticket = r.0; admits = r.1; refuses = e }

-- as many steps as the struct counts
steps-count : (S : Steps) → S.count ≤ length S.steps → length (steps_of S) ≡ S.count
unfolding steps_of
steps-count S h = length-map (take S.count S.steps) _ ∙ length-take-le S.count S.steps h

module _ (b : List ℕ) (step : ℕ) (t : TenAt b step) (read : Result Decoded Refusal) (l w : List ℤ) (same : ticket_of read l w ≡ decode b) where
  decoded-is : decode b ≡ accepted t.ticket
  decoded-is = (admit-accepted (decode b) t.admits).0

  passes : admitted t.ticket.nest ≡ accepted tt
  passes = (admit-accepted (decode b) t.admits).1

  pub is-read : {X : Type 0} (r : Refusal) → read ≡ Err r → X
  is-read r e = not-both (sym decoded-is ∙ sym same ∙ ap (λ x. ticket_of x l w) e)

  pub not-refused : {X : Type 0} (r : Refusal) → refusal r ≡ (ticket_of read l w >>= (λ T. space T.nest.loops)) → X
  unfolding ◌>>=◌
  not-refused r e = not-both (sym (e ∙ ap (λ d. d >>= (λ T. space T.nest.loops)) (same ∙ decoded-is)
      ∙ (admitted-accepted t.ticket.nest passes).0))

  module _ (d : Decoded) (e : read ≡ Ok d) where
    abbrev P : FlatNest
    P = flat_nest d.header l w

    abbrev S : Steps
    S = d.steps

    read_is : ticket_on P S ≡ t.ticket
    read_is = accepted-same (sym (ap (λ x. ticket_of x l w) e) ∙ same ∙ decoded-is)

    pub search-in : (n from : ℕ) (found : List ℤ) → Laid P S n → from ≤ length (iterations t.ticket.nest.loops) → length found ≡ batch_room
        → SearchIn P S n step from found
    unfolding ticket_on
    search-in n from found h g r =
        let q = read_is in
        let s = ten-reached (decode b) step t.ticket t.admits t.refuses in
        let z = steps-count S (let f = h.ticket.steps.few in let o = h.ticket.steps.room in omega arith) in
        let a = ap (λ (T : Ticket). length T.steps) q in
        let k = ap (λ (T : Ticket). length (iterations T.nest.loops)) q in let c = h.count in
        record {
          laid = h;
          inside = admitted-inside h (subst (λ (T : Ticket). admitted T.nest ≡ accepted tt) (sym q) passes);
          steps-there = omega arith;
          source-there = omega arith;
          room = r;
        }

    pub searched-at : (from skip : ℕ) (r : Walked) (found : List ℤ) → Searched (take step (steps_of S)) (nest_of P) from skip r found
        → SearchedAt t from skip r found
    unfolding ticket_on
    searched-at from skip r found s = subst (λ (T : Ticket). Searched (take step T.steps) T.nest from skip r found) read_is s
