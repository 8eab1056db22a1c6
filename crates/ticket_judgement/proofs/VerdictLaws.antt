-- Refusals 1 to 9, then 10 to 13 on the directions found, are the model's `judged_of`.
use mathlib.Core.Path.{◌≡◌, refl, sym, ◌∙◌, ap, subst}
use mathlib.Core.Bool.{Bool}
use mathlib.Core.List.{List, []}
use Prim.Native.Nat.{ℕ}
use lib.IntN.{ℤ}
use Rattle.std.specs.Prelude.{Result, Ok, Err, Option}
use Rattle.std.specs.Result.{IsErrAnd}
use Rattle.model.specs.Answer.{Answer, accepted, ◌>>=◌}
use Rattle.model.specs.Ticket as Model
use Rattle.model.specs.Grammar.{total}
use Rattle.model.specs.Judge.{admit_of, judge_ticket, judged_of}
use Rattle.model.specs.Entries.{transparent}
use Rattle.model.proofs.Verdict.VerdictLaws.{refused-judged}
use Rattle.ticket_refusals.specs.declared.Refusal.{Refusal}
use Rattle.ticket_refusals.specs.Refusals.{refusal}
use Rattle.ticket_steps.specs.declared.Steps.{Steps}
use Rattle.ticket_decoding.specs.declared.Decoded.{Decoded}
use Rattle.ticket_decoding.specs.Ticket.{ticket_on, ticket_of, Decodes}
use Rattle.nest_flat.specs.FlatNests.{FlatNest, flat_nest, nest_of}
use Rattle.nest_elements.specs.Nests.{opaque_at}
use Rattle.ticket_admission.specs.CountedTickets.{Laid, Counts}
use Rattle.ticket_admission.proofs.AdmitLaws.{not-counted, not-admitted, admitted-too}
use Rattle.ticket_admission.proofs.CountedTicketLaws.{handed-on}
use Rattle.dependence_directions.specs.SearchResults.{Directs}
use Rattle.step_judgement.specs.declared.Judged.{Judged}
use Rattle.step_judgement.specs.Judgement.{JudgeIn, Judges}
use Rattle.ticket_judgement.specs.declared.Decided.{Decided}
use Rattle.ticket_judgement.specs.Verdicts.{Decides, DecidesOn}

-- a refusal that a `?` hands on
pub decides-on : {m : Answer Model.Ticket} {l w : List ℤ} (x : Result Decided Refusal) (r : Refusal) → IsErrAnd x (λ e. e ≡ r) → Decides m (Err r) l w
    → Decides m x l w
decides-on {m} {l} {w} x r h p = handed-on (λ y. Decides m y l w) x h p

-- 1 to 9; which ticket is named does not matter
pub turned-away : (m : Answer Model.Ticket) (l w : List ℤ) (r : Refusal) → admit_of m ≡ refusal r → Decides m (Err r) l w
turned-away m l w r e = record {
  ticket = record { nest = record { loops = []; arrays = []; statements = [] }; steps = [] };
  same = sym (refused-judged m e);
  known = tt;
}

module _ (P : FlatNest) (S : Steps) (n : ℕ) (h : Laid P S n) (d : List Bool) where
  pub found-refused : (l w : List ℤ) (r : Refusal) → Directs P (Err r) d → DecidesOn P S (Err r) l w
  found-refused l w r g = turned-away (accepted (ticket_on P S)) l w r (not-admitted P S r g.admits)

  module _ (g : Directs P (Ok tt) d) where
    pub judge-in : JudgeIn P S (record { marks = d; depth = P.depth })
    judge-in = let t = h.ticket in record {
      flat-nest = t.flat-nest;
      steps = t.steps;
      ranges = t.ranges;
      formed = t.formed;
      level = refl;
      vectors = (g.directions refl).vectors;
    }

    pub steps-refused : (r : Refusal) (l w : List ℤ) → Judges P S (Err r) l w → DecidesOn P S (Err r) l w
    unfolding judged_of ticket_on ◌>>=◌
    steps-refused r l w j = record {
      ticket = ticket_on P S;
      same = j.same ∙ sym (ap (◌>>= judge_ticket) (admitted-too P S g.admits));
      known = tt;
    }

    -- by what was found on the ticket's own nest
    pub decided : (j : Judged) (l w : List ℤ) → Judges P S (Ok j) l w
        → (k : Option ℕ) (t : ℕ) → opaque_at k ≡ transparent 1 (nest_of P).statements → t ≡ total (nest_of P).arrays
        → DecidesOn P S (Ok (record { count = n; opaque = k; elements = t; header = j.header; directions = j.directions })) l w
    unfolding judged_of ticket_on ◌>>=◌
    decided j l w c k t f i = record {
      ticket = ticket_on P S;
      same = c.same ∙ sym (ap (◌>>= judge_ticket) (admitted-too P S g.admits));
      known = record {
        count = h.count;
        opaque = f;
        elements = i;
        new = c.new-nest;
        level = c.directions.level;
        directions = c.directions.vectors;
      };
    }

module _ {read : Result Decoded Refusal} (l w : List ℤ) where
  pub not-read : (r : Refusal) → read ≡ Err r → (l' w' : List ℤ) → Decides (ticket_of read l w) (Err r) l' w'
  unfolding admit_of ◌>>=◌
  not-read r e l' w' = turned-away (ticket_of read l w) l' w' r (ap (λ (x : Result Decoded Refusal). admit_of (ticket_of x l w)) e)

  pub not-laid : (r : Refusal) → Counts read l w (Err r) → (l' w' : List ℤ) → Decides (ticket_of read l w) (Err r) l' w'
  not-laid r h l' w' = turned-away (ticket_of read l w) l' w' r (not-counted read l w r h)

  -- what was decoded is the ticket that is laid out
  pub of-decoded : (d : Decoded) → read ≡ Ok d → (r : Result Decided Refusal) (l' w' : List ℤ)
      → DecidesOn (flat_nest d.header l w) d.steps r l' w' → Decides (ticket_of read l w) r l' w'
  of-decoded d e r l' w' = subst (λ (x : Result Decoded Refusal). Decides (ticket_of x l w) r l' w') (sym e)

-- of the bytes that were decoded
pub of-bytes : (m : Answer Model.Ticket) (d : Result Decoded Refusal) (l w : List ℤ) → Decodes m d l w → (r : Result Decided Refusal) (l' w' : List ℤ)
    → Decides (ticket_of d l w) r l' w' → Decides m r l' w'
of-bytes m d l w h r l' w' = subst (λ (x : Answer Model.Ticket). Decides x r l' w') h.same
