-- The verdict, then the outcome of the judged ticket, are the model's `run_entry`.
use mathlib.Core.Path.{◌≡◌, refl, sym, ◌∙◌, ap, ap₂, subst}
use mathlib.Core.List.{List}
use Prim.Native.Nat.{ℕ}
use lib.Dec.{eqb}
use lib.IntN.{ℤ}
use Rattle.std.specs.Prelude.{Option, Result, Ok, Err}
use lib.ListN.{length}
use Rattle.model.specs.Answer as Model
use Rattle.model.specs.Answer.{accepted, refused, require, ◌>>◌, ◌>>=◌}
use Rattle.model.specs.Ticket.{Ticket}
use Rattle.model.specs.Grammar.{decode, total}
use Rattle.model.specs.Ranges.{TicketRanges}
use Rattle.model.specs.Shape.{WellFormed}
use Rattle.model.specs.Points.{iterations}
use Rattle.model.specs.Bounds.{admitted}
use Rattle.model.specs.Store.{run_nest}
use Rattle.model.specs.Judge.{Judged, judge_ticket, judged_of}
use Rattle.model.specs.Entries.{Outcome, transparent, runnable, run_outcome, run_of, run_entry}
use Rattle.model.proofs.Answers.PassLaws.{bind-pass, bind-stop}
use Rattle.model.proofs.Grammar.GrammarLaws.{decode-ranges, decode-formed}
use Rattle.model.proofs.Verdict.VerdictLaws.{admit-accepted, judge_ticket-accepted, judged-accepted}
use Rattle.ticket_refusals.specs.declared.Refusal.{Refusal}
use Rattle.ticket_refusals.specs.Refusals.{refusal}
use Rattle.nest_flat.specs.FlatNests.{flat_nest, nest_of}
use Rattle.nest_elements.specs.Nests.{opaque_at}
use Rattle.entry_answers.specs.Answers.{OutcomeIs}
use Rattle.ticket_judgement.specs.declared.Decided.{Decided}
use Rattle.ticket_judgement.specs.Verdicts.{judged_with, Known, Decides}
use Rattle.run_nest.proofs.AcceptedLaws.{new-count, new-arrays, new-executable}
use Rattle.run_ticket.specs.Outcomes.{tested, outcome, RunIn}

-- ---- the model's entry, by its judgement

module _ (m : Model.Answer Ticket) (w : List ℕ) where
  abbrev checked : Judged → Model.Answer Judged
  checked j = transparent 1 j.ticket.nest.statements >> require (eqb (length w) (total j.ticket.nest.arrays)) 16 0 >> accepted j

  judgement-refused : (r : Refusal) → judged_of m ≡ refusal r → OutcomeIs (run_of m w) (Err r) w
  unfolding run_of runnable run_outcome
  judgement-refused r e = subst (λ (a : Model.Answer Judged). OutcomeIs (run_outcome a w) (Err r) w)
      (sym (bind-stop checked e)) (record { answer = refl; memory = refl })

  -- by what was found on the ticket's own nest
  judgement-passes : (j : Judged) → judged_of m ≡ accepted j → (k : Option ℕ) (t c : ℕ)
      → opaque_at k ≡ transparent 1 j.ticket.nest.statements → t ≡ total j.ticket.nest.arrays
      → c ≡ length (iterations j.ticket.nest.loops)
      → run_of m w ≡ outcome (tested k t w) c j.new w
  unfolding run_of runnable tested run_outcome outcome ◌>>◌ ◌>>=◌
  judgement-passes j e k t c f g i =
      ap (λ (a : Model.Answer Judged). run_outcome a w) (bind-pass checked e)
      ∙ ap₂ (λ (a : Model.Answer (Unit {0})) (n : ℕ). run_outcome ((a >> require (eqb (length w) n) 16 0) >> accepted j) w) (sym f) (sym g)
      ∙ go (tested k t w)
    where
      go : (a : Model.Answer (Unit {0})) → run_outcome (a >> accepted j) w ≡ outcome a c j.new w
      go (accepted u) = ap (λ (n : ℕ). record { answer = accepted n; memory = run_nest j.new w }) (sym i)
      go (refused n p) = refl

-- ---- an accepted ticket

record Taken (j : Judged) : Type 0 where
  ranges : TicketRanges j.ticket
  formed : WellFormed j.ticket.nest
  admits : admitted j.ticket.nest ≡ accepted tt
  judges : judge_ticket j.ticket ≡ accepted j

taken : (b : List ℕ) (j : Judged) → judged_of (decode b) ≡ accepted j → Taken j
taken b j e =
    let r = judged-accepted (decode b) e in
    let a = admit-accepted (decode b) r.1 in
    let same : r.0 ≡ j.ticket = sym (ap (λ (k : Judged). k.ticket) (judge_ticket-accepted r.0 r.2).0) in
    record {
      ranges = subst TicketRanges same (decode-ranges b a.0);
      formed = subst (λ (T : Ticket). WellFormed T.nest) same (decode-formed b a.0);
      admits = subst (λ (T : Ticket). admitted T.nest ≡ accepted tt) same a.1;
      judges = subst (λ (T : Ticket). judge_ticket T ≡ accepted j) same r.2;
    }

-- ---- the entry

module _ (b w : List ℕ) (l m : List ℤ) where
  pub run-refused : (r : Refusal) → Decides (decode b) (Err r) l m → OutcomeIs (run_entry b w) (Err r) w
  run-refused r h = judgement-refused (decode b) w r (sym h.same)

  module _ (d : Decided) (h : Decides (decode b) (Ok d) l m) where
    abbrev whole : Judged
    whole = judged_with h.ticket l m d

    judged-so : judged_of (decode b) ≡ accepted whole
    judged-so = sym h.same

    known : Known h.ticket (flat_nest d.header l m) d
    known = h.known

    t : Taken whole
    t = taken b whole judged-so

    pub run_in : RunIn d.elements (flat_nest d.header l m) d.count
    run_in = record {
      flat-nest = known.new.flat-nest;
      executable = new-executable h.ticket t.ranges t.formed t.admits whole t.judges;
      all-elements = known.elements ∙ sym (ap total (new-arrays h.ticket t.ranges t.formed t.admits whole t.judges));
      counted = known.count ∙ sym (new-count h.ticket t.ranges t.formed t.admits whole t.judges);
    }

    pub ran_out : (a : Result ℕ Refusal) (v : List ℕ)
        → OutcomeIs (outcome (tested d.opaque d.elements w) d.count (nest_of (flat_nest d.header l m)) w) a v → OutcomeIs (run_entry b w) a v
    ran_out a v = subst (λ (x : Outcome). OutcomeIs x a v)
        (sym (judgement-passes (decode b) w whole judged-so d.opaque d.elements d.count known.opaque known.elements known.count))
