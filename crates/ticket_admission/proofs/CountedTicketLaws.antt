-- The grammar's answer, then refusals 7 and 8 on the flat nest.
use mathlib.Core.Path.{◌≡◌, refl, sym, subst}
use mathlib.Core.List.{List}
use Prim.Native.Nat.{ℕ}
use lib.IntN.{ℤ}
use Rattle.std.specs.Prelude.{Result, Ok, Err}
use Rattle.std.specs.Result.{IsErrAnd}
use Rattle.model.specs.Answer.{◌>>=◌}
use Rattle.ticket_refusals.specs.declared.Refusal.{Refusal}
use Rattle.nest_flat.specs.FlatNests.{flat_nest, FlatNestIn}
use Rattle.ticket_decoding.specs.declared.Decoded.{Decoded}
use Rattle.ticket_decoding.specs.Ticket.{ticket_on, DecodedIn}
use Rattle.nest_admission.specs.Admission as Admission
use Rattle.ticket_admission.specs.CountedTickets.{Laid, Counts}

-- a refusal that a `?` hands on
pub handed-on : {T : Type 0} (P : Result T Refusal → Type 0) {r : Refusal} (x : Result T Refusal) → IsErrAnd x (λ e. e ≡ r) → P (Err r) → P x
handed-on P (Ok a) h p = elim h [ ]
handed-on P (Err e) h p = subst (λ y. P (Err y)) (sym h) p

module _ {read : Result Decoded Refusal} (l w : List ℤ) where
  pub decode-refused : {r : Refusal} → read ≡ Err r → Counts read l w (Err r)
  unfolding ◌>>=◌
  decode-refused {r} e = subst (λ m. Counts m l w (Err r)) (sym e) (record { same = refl; laid = tt })

  module _ (h : DecodedIn read l w) {d : Decoded} (e : read ≡ Ok d) where
    pub flat-nest-in : FlatNestIn (flat_nest d.header l w)
    flat-nest-in = (subst (λ m. DecodedIn m l w) e h).ticket.flat-nest

    laid-out : (a : Result ℕ Refusal) → Admission.Counts (flat_nest d.header l w) a → Counts (Ok d) l w a
    unfolding ◌>>=◌ ticket_on
    laid-out (Ok n) g = record {
      same = g.same;
      laid = record { ticket = (subst (λ m. DecodedIn m l w) e h).ticket; space-accepted = sym g.same; count = g.count n refl };
    }
    laid-out (Err r) g = record { same = g.same; laid = tt }

    pub counted : {a : Result ℕ Refusal} → Admission.Counts (flat_nest d.header l w) a → Counts read l w a
    counted {a} g = subst (λ m. Counts m l w a) (sym e) (laid-out a g)

-- the ticket that was read is laid out
pub laid-ticket : {read : Result Decoded Refusal} {l w : List ℤ} {n : ℕ} {d : Decoded} → Counts read l w (Ok n) → read ≡ Ok d
    → Laid (flat_nest d.header l w) d.steps n
laid-ticket {l = l} {w = w} {n = n} {d = d} h e = (subst (λ m. Counts m l w (Ok n)) e h).laid
