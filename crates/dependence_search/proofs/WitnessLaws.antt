-- What the search asks can be met: i 0..1, A(0) written once in each iteration.
use mathlib.Core.Path.{◌≡◌, refl, sym, ap₂, ◌∙◌}
use mathlib.Core.Bool.{Bool, true, false}
use mathlib.Core.List.{List, [], ◌∷◌}
use Prim.Native.Nat.{ℕ, zero, suc, ◌+◌, ◌*◌, ◌<◌}
use native.Mathlib.Omega.{arith}
use lib.Dec.{eqb}
use lib.IntN.{pos}
use lib.ListN.{get_or, replicate, length-replicate, get_or-replicate}
use Rattle.integers.specs.Affine.{affine, dot}
use Rattle.integers.specs.Sign.{sign}
use Rattle.lists.specs.Parts.{rows}
use Rattle.lists.specs.Tests.{same_by}
use Rattle.lists.proofs.MembershipLaws.{all_nil, all_cons}
use Rattle.model.specs.Ticket.{Statement}
use Rattle.model.specs.Bounds.{subscript_at}
use Rattle.model.specs.Machine.{same, element}
use Rattle.model.specs.Directions.{earlier}
use Rattle.model.specs.Inside.{Earlier}
use Rattle.dependence_vectors.specs.Numbers.{pair_marks}
use Rattle.dependence_vectors.specs.Candidates.{row}
use Rattle.dependence_search.specs.Flat.{Flat, flat, number_at, point_at, uses_from, use_at, Describes, Ready, NumbersBelow}

abbrev body : List Statement
body = (record {
  rule = 0;
  constant = 0;
  writes = (record { array = 0; subscripts = (record { constant = pos 0; coefficients = pos 0 ∷ [] }) ∷ [] })
      ∷ [];
  reads = [];
}) ∷ []

abbrev stored : Flat
stored = flat (pos 0 ∷ pos 1 ∷ []) 1 2 (replicate 2 0) (0 ∷ []) (true ∷ []) 1

number_is : (a x : ℕ) → a < 1 → x < 2 → number_at stored a x ≡ 0
number_is a x h g = get_or-replicate 2 (a * 2 + x) 0 0 (omega arith)

element-is : (a x : ℕ) → a < 1 → x < 2 → element (point_at stored x) (use_at body a).access ≡ record { array = 0; subscripts = pos 0 ∷ [] }
unfolding row use_at uses_from element subscript_at affine dot
element-is zero zero h g = refl
element-is zero (suc zero) h g = refl
element-is zero (suc (suc x)) h g = absurd (omega arith)
element-is (suc a) x h g = absurd (omega arith)

pub ready : Ready stored (replicate pair_marks false)
unfolding rows earlier sign
ready = record {
  few = omega arith;
  shallow = omega arith;
  stored = omega arith;
  rising = (all_cons (Earlier (pos 0 ∷ [])) tt (all_nil (Earlier (pos 0 ∷ []))), (all_nil (Earlier (pos 1 ∷ [])), tt));
  both = refl;
  in_body = one;
  table = omega (arith, length-replicate {A = ℕ} 2 0);
  room = omega (arith, length-replicate {A = Bool} pair_marks false);
}
  where
    one : (a : ℕ) → a < 1 → get_or (0 ∷ []) a 0 < 1
    one zero h = omega arith
    one (suc a) h = absurd (omega arith)

pub numbers-below : NumbersBelow 1 stored
numbers-below = record { few = omega arith; below = λ a x h g. (let e = number_is a x h g in omega arith) }

pub describes : Describes body stored
unfolding uses_from same same_by
describes = record {
  body = refl;
  statements = refl;
  writes = refl;
  elements = λ a b x y h g i k. ap₂ eqb (number_is a x h i) (number_is b y g k)
      ∙ sym (ap₂ same (element-is a x h i) (element-is b y g k));
}
