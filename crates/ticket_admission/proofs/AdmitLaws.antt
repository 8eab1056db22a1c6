-- Refusal 9 is the rest of the model's `admit` after 1 to 8.
use mathlib.Core.Path.{◌≡◌, sym, ap}
use mathlib.Core.List.{List}
use Prim.Native.Nat.{ℕ}
use lib.IntN.{ℤ}
use Rattle.std.specs.Prelude.{Result, Ok, Err}
use Rattle.model.specs.Answer.{Answer, accepted, refused, ◌>>◌, ◌>>=◌}
use Rattle.model.specs.Ticket as Model
use Rattle.model.specs.Points.{iterations}
use Rattle.model.specs.Bounds.{space, in_arrays, admitted}
use Rattle.model.specs.Judge.{admit_of}
use Rattle.ticket_refusals.specs.declared.Refusal.{Refusal}
use Rattle.ticket_refusals.specs.Refusals.{refusal}
use Rattle.ticket_steps.specs.declared.Steps.{Steps}
use Rattle.nest_flat.specs.FlatNests.{FlatNest}
use Rattle.ticket_decoding.specs.declared.Decoded.{Decoded}
use Rattle.ticket_decoding.specs.Ticket.{ticket_on, ticket_of}
use Rattle.nest_admission.specs.Admission.{Admits, PointsCounted}
use Rattle.ticket_admission.specs.CountedTickets.{Laid, Counts}

refused-before-9 : (m : Answer Model.Ticket) {n p : ℕ} → (m >>= (λ T. space T.nest.loops)) ≡ refused n p → admit_of m ≡ refused n p
unfolding admit_of admitted ◌>>◌ ◌>>=◌
refused-before-9 (accepted T) e =
    ap (λ (x : Answer (Unit {0})). (x >> in_arrays T.nest.arrays (iterations T.nest.loops) 1 T.nest.statements) >> accepted T) e
refused-before-9 (refused n p) e = ap (λ (x : Answer (Unit {0})). x >> refused n p) e

pub not-counted : (d : Result Decoded Refusal) (l w : List ℤ) (r : Refusal) → Counts d l w (Err r) → admit_of (ticket_of d l w) ≡ refusal r
not-counted d l w r h = refused-before-9 (ticket_of d l w) (sym h.same)

-- a ticket that is laid out waits for 9
pub points-counted : (P : FlatNest) (S : Steps) (n : ℕ) → Laid P S n → PointsCounted P n
points-counted P S n h = record {
  nest = record { flat-nest = h.ticket.flat-nest; formed = h.ticket.formed; space-accepted = h.space-accepted };
  shallow = h.ticket.shallow;
  count = h.count;
}

-- however refusal 9 was found or passed
module _ (P : FlatNest) (S : Steps) where
  pub not-admitted : (r : Refusal) → Admits P (Err r) → admit_of (accepted (ticket_on P S)) ≡ refusal r
  unfolding admit_of ticket_on ◌>>◌ ◌>>=◌
  not-admitted r g = ap (◌>> accepted (ticket_on P S)) (sym g)

  pub admitted-too : Admits P (Ok tt) → admit_of (accepted (ticket_on P S)) ≡ accepted (ticket_on P S)
  unfolding admit_of ticket_on ◌>>◌ ◌>>=◌
  admitted-too g = ap (◌>> accepted (ticket_on P S)) (sym g)
