-- A real ticket meets what the functions ask: one loop, an array of one element, one access to it, one point.
use mathlib.Core.Path.{◌≡◌, refl, subst, sym}
use mathlib.Core.Bool.{false}
use mathlib.Core.List.{List, [], ◌∷◌}
use Prim.Native.Nat.{ℕ, zero, suc, ◌*◌, ◌≤◌, ◌<◌}
use native.Mathlib.Omega.{arith}
use lib.IntN.{ℤ, pos}
use lib.ListN.{get_or, replicate}
use Rattle.lists.specs.Membership.{All}
use Rattle.lists.specs.Parts.{rows}
use Rattle.lists.proofs.MembershipLaws.{all_nil, all_cons}
use Rattle.integers.specs.Affine.{Within, affine, dot}
use Rattle.model.specs.Grammar.{elements, total, extents}
use Rattle.model.specs.Bounds.{subscript_at, outside, violates}
use Rattle.model.specs.Store.{sum}
use Rattle.nest_flat.specs.Layout.{extents_at, arrays_from, arrays_of, form_at, forms_from, access_at, AccessesOk}
use Rattle.nest_elements.proofs.FindLaws.{SearchIn}
use Rattle.nest_points.specs.Stored.{RowsIn}
use Rattle.nest_elements.specs.Places.{NumberIn}

abbrev words : List ℤ
words = replicate 24 (pos 0)

abbrev accessed : List ℕ
accessed = 0 ∷ []

abbrev arrays : List ℕ
arrays = 1 ∷ 1 ∷ 1 ∷ 1 ∷ []

small : (j : ℕ) → get_or arrays j 0 ≤ 4096
small zero = omega arith
small (suc zero) = omega arith
small (suc (suc zero)) = omega arith
small (suc (suc (suc zero))) = omega arith
small (suc (suc (suc (suc j)))) = omega arith

one-dimension : (i : ℕ) → i < 1 → get_or arrays (i * 4) 0 ≤ 3
one-dimension i h = let e : i * 4 ≡ 0 = omega arith in subst (λ (j : ℕ). get_or arrays j 0 ≤ 3) (sym e) (omega arith)

first-array : (k : ℕ) → k < 1 → get_or accessed k 0 < 1
first-array k h = let e : k ≡ 0 = omega arith in subst (λ (j : ℕ). get_or accessed j 0 < 1) (sym e) (omega arith)

accesses-ok : AccessesOk words accessed arrays 1
accesses-ok = record {
  words = refl;
  many = omega arith;
  few = omega arith;
  shallow = omega arith;
  small = within 24;
  dimensions = one-dimension;
  extents = small;
  there = first-array;
}
  where
    within : (n : ℕ) → Within 32767 (replicate n (pos 0))
    within zero = tt
    within (suc n) = (omega arith, within n)

rows_in : RowsIn (pos 0 ∷ []) 1 1
unfolding rows
rows_in = record {
  few = omega arith;
  bound = omega arith;
  room = omega arith;
  near = all_cons (Within 100000) (omega arith, tt)
      (all_nil (Within 100000));
}

pub search-in : SearchIn words accessed arrays (1 ∷ []) (pos 0 ∷ []) 1 1
unfolding sum
search-in = record { accesses = accesses-ok; statements = omega arith; each = omega arith; stored = rows_in }

pub number_in : NumberIn words accessed arrays (pos 0 ∷ []) 1 1 1
unfolding rows violates outside extents arrays_of arrays_from extents_at access_at forms_from form_at subscript_at affine dot elements total
number_in = record { accesses = accesses-ok; stored = rows_in; inside = λ k h. kept k (omega arith); fits = omega arith; space = omega arith }
  where
    kept : (k : ℕ) → k ≡ 0 → All (λ p. violates (arrays_of arrays) p (access_at words accessed arrays 1 k) ≡ false) (rows 1 1 (pos 0 ∷ []))
    kept k e = subst (λ (j : ℕ). All (λ p. violates (arrays_of arrays) p (access_at words accessed arrays 1 j) ≡ false) (rows 1 1 (pos 0 ∷ []))) (sym e)
        (all_cons (λ p. violates (arrays_of arrays) p (access_at words accessed arrays 1 0) ≡ false) refl
        (all_nil (λ p. violates (arrays_of arrays) p (access_at words accessed arrays 1 0) ≡ false)))
