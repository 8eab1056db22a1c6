-- The survey is the model's `nest_points`; after it the search for a subscript out of bounds is the rest of the model's `admitted`.
use mathlib.Core.Path.{◌≡◌, sym, ◌∙◌, ap, subst}
use mathlib.Core.List.{List}
use Prim.Native.Nat.{ℕ, ◌*◌, ◌≤◌}
use native.Mathlib.Omega.{arith}
use native.Mathlib.Nat.{mul-le-mul_left}
use lib.IntN.{ℤ}
use lib.ListN.{length}
use Rattle.std.specs.Prelude.{Option, Result, Ok, Err}
use Rattle.model.specs.Answer.{accepted, ◌>>◌, ◌>>=◌}
use Rattle.model.specs.Bounds.{space, in_arrays, admitted}
use Rattle.model.specs.Points.{iterations}
use Rattle.model.specs.Grammar.{ticket_loops, most_points}
use Rattle.ticket_refusals.specs.declared.Refusal.{Refusal}
use Rattle.ticket_refusals.specs.declared.Refusal.TheVariants.{IndexOutOfRange, TooManyPoints}
use Rattle.nest_points.specs.Surveys as Space
use Rattle.nest_points.specs.declared.SpaceError.{SpaceError}
use Rattle.nest_points.specs.declared.SpaceError.TheVariants.{IndexTooLarge, CountTooLarge}
use Rattle.nest_points.proofs.ListLaws.{admitted-near, admitted-few}
use Rattle.nest_elements.specs.Search as Elements
use Rattle.nest_flat.specs.FlatNests.{FlatNest, nest_of}
use Rattle.nest_points.specs.Nests.{NestSurveyed, ListIn, PointsAre}
use Rattle.nest_elements.specs.Nests.{NestSearched}
use Rattle.nest_points.proofs.NestLaws.{depth_is}
use Rattle.nest_admission.specs.Admission.{passed, Counts, Admits, PointsCounted, FindIn, EnumerateIn, Enumerates}

-- ---- 7 and 8

module _ (P : FlatNest) (v : Result ℕ SpaceError) (g : NestSurveyed P 32767 most_points v) where
  surveyed : Space.answer_of 7 8 v ≡ space (nest_of P).loops
  unfolding space
  surveyed = g.same 7 8

  pub far-out : (k : ℕ) → v ≡ Err (IndexTooLarge k) → Counts P (Err (IndexOutOfRange k))
  far-out k q = record { same = sym (ap (Space.answer_of 7 8) q) ∙ surveyed; count = λ n z. cc }

  pub many-out : (k : ℕ) → v ≡ Err (CountTooLarge k) → Counts P (Err (TooManyPoints k))
  many-out k q = record { same = sym (ap (Space.answer_of 7 8) q) ∙ surveyed; count = λ n z. cc }

  pub counted-out : (n : ℕ) → v ≡ Ok n → Counts P (Ok n)
  counted-out n q = record { same = sym (ap (Space.answer_of 7 8) q) ∙ surveyed; count = λ m z. let e : m ≡ n = cc in e ∙ g.count n q }

-- ---- 9

pub admits-by : (P : FlatNest) → space (nest_of P).loops ≡ accepted tt → (r : Option ℕ) → NestSearched P r → (s : Result (Unit {0}) Refusal) → passed s ≡ Elements.answer_of r
    → Admits P s
unfolding admitted ◌>>◌ ◌>>=◌
admits-by P h r f s g = g ∙ f ∙ sym (ap (◌>> in_arrays (nest_of P).arrays (iterations (nest_of P).loops) 1 (nest_of P).statements) h)

-- room for the points

pub list-in : (P : FlatNest) (room : ℕ) → EnumerateIn P room → ListIn P room
list-in P room h = record {
  flat-nest = h.flat-nest;
  near = admitted-near (nest_of P).loops h.space-accepted;
  few = admitted-few (nest_of P).loops (let d = depth_is P in let s = h.flat-nest.some in omega arith) h.space-accepted;
  fits = h.fits;
}

module _ (P : FlatNest) (n : ℕ) (h : PointsCounted P n) where
  pub enumerate-in : (room : ℕ) → n * 4 ≤ room → EnumerateIn P room
  enumerate-in room f = record {
    flat-nest = h.nest.flat-nest;
    space-accepted = h.nest.space-accepted;
    fits = let a = mul-le-mul_left n h.shallow in subst (λ (k : ℕ). k * P.depth ≤ room) h.count (omega arith);
  }

  pub few-points : n ≤ most_points
  few-points = let s = h.nest.flat-nest.some in let d = depth_is P in let c = h.count in let f = admitted-few (nest_of P).loops (omega arith)
      h.nest.space-accepted in omega arith

  pub enumerate-many : EnumerateIn P (ticket_loops * most_points)
  enumerate-many = let f = few-points in enumerate-in (ticket_loops * most_points) (omega arith)

module _ (P : FlatNest) (o : List ℤ) (h : EnumerateIn P (length o)) (e : List ℤ) (n : ℕ) (f : PointsAre P e n × (length e ≡ length o)) where
  pub find-in : FindIn P e n
  find-in = record { violation = record { flat-nest = h.flat-nest; points-are = f.0 }; space-accepted = h.space-accepted }

  pub enumerated : (r : Option ℕ) → NestSearched P r → (s : Result (Unit {0}) Refusal) → passed s ≡ Elements.answer_of r → Enumerates P o e s
  enumerated r g s q = record {
    same = admits-by P h.space-accepted r g s q;
    points = subst (PointsAre P e) f.0.count f.0;
    room = f.1;
  }
