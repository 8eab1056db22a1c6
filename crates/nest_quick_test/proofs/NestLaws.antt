-- The quick test of two accesses of a flat nest is that of the nest that it stands for: by the arrays, by an empty range, or by a dimension.
use mathlib.Core.Path.{◌≡◌, sym, ◌∙◌, ap}
use mathlib.Core.Bool.{Bool, true, false, ◌||◌}
use mathlib.Core.List.{List}
use Prim.Native.Nat.{ℕ, ◌*◌, ◌/◌, ◌≤◌, ◌<◌}
use native.Mathlib.Omega.{arith}
use native.Mathlib.Nat.{div-add-mod}
use borrow.Author.Tests.{eq-eqb, ne_eqb}
use lib.ListN.{length, get_or}
use lib.Seq.{get_or-take}
use Rattle.lists.specs.Tests.{any}
use Rattle.model.specs.Quick.{some_apart, is_apart}
use Rattle.model.specs.Grammar.{most_arrays}
use Rattle.nest_flat.specs.Layout.{forms_from, access_at}
use Rattle.nest_flat.specs.FlatNests.{FlatNest, extents_in, accessed_in, words_in, nest_of, FlatNestIn, access_of}
use Rattle.nest_flat.proofs.FlatNestLaws.{access-is, words_count, accessed-count, extents-count}
use Rattle.nest_loop_ranges.specs.declared.Range.{Range}
use Rattle.nest_loop_ranges.specs.Ranges.{ranges_of, is_empty, RangesIn}
use Rattle.nest_loop_ranges.specs.Values.{RangesAre}
use Rattle.nest_quick_test.specs.Differences.{FormsIn}
use Rattle.nest_quick_test.specs.Nests.{NestTestIn}

module _ (P : FlatNest) where
  -- ---- an access as it is read

  abbrev array_of : ℕ → ℕ
  array_of k = get_or P.accessed k 0

  abbrev dimensions_of : ℕ → ℕ
  dimensions_of k = get_or P.extents (array_of k * 4) 0

  module _ (h : FlatNestIn P) (k : ℕ) (g : k < P.accesses) where
    array-is : get_or (accessed_in P) k 0 ≡ array_of k
    array-is = get_or-take P.accesses P.accessed k 0 g

    in_use : array_of k < length (extents_in P) / 4
    in_use = let c = accessed-count P h in rw array-is at (h.accesses-ok.there k (omega arith))

    there : array_of k < P.arrays
    there = let u = in_use in let l = extents-count P h in let d = div-add-mod (length (extents_in P)) 4 in omega arith

    dimensions-are : get_or (extents_in P) (array_of k * 4) 0 ≡ dimensions_of k
    dimensions-are = let t = there in get_or-take (P.arrays * 4) P.extents (array_of k * 4) 0 (omega arith)

    few-dimensions : dimensions_of k ≤ 3
    few-dimensions = rw dimensions-are at (h.accesses-ok.dimensions (array_of k) in_use)

    access-read : access_of (nest_of P) k ≡ record { array = array_of k; subscripts = forms_from (words_in P) P.depth (k * 3) (dimensions_of k) }
    unfolding access_at
    access-read = access-is P h k g ∙ rw (array-is, dimensions-are)

  -- ---- the test

  module _ (u v : ℕ) (p : NestTestIn P u v) where
    abbrev answer : Bool
    answer = is_apart (nest_of P).loops (access_of (nest_of P) u) (access_of (nest_of P) v)

    pub apart-arrays : (array_of u ≡ array_of v → ⊥) → true ≡ answer
    unfolding is_apart
    apart-arrays e = rw (access-read p.flat-nest u p.first, access-read p.flat-nest v p.second, ne_eqb (array_of u) (array_of v) e)

    pub array-there : array_of u < most_arrays
    array-there = let t = there p.flat-nest u p.first in let f = p.flat-nest.few-arrays in omega arith

    pub forms-in : (b : List Range) → RangesIn P.depth b → FormsIn (words_in P) (u * 3) (v * 3) (dimensions_of u) P.depth b
    forms-in b r =
        let d = few-dimensions p.flat-nest u p.first in let l = words_count P p.flat-nest in let f = p.first in let g = p.second in
        record { small = p.flat-nest.accesses-ok.small; first = omega arith; second = omega arith; ranges = r }

    module _ (e : array_of u ≡ array_of v) (b : List Range) (q : RangesAre P.limits P.counts P.depth b) (t : Bool)
        (g : t ≡ any is_empty (ranges_of P.depth b)) where
      abbrev forms : Bool
      forms = some_apart (ranges_of P.depth b) (forms_from (words_in P) P.depth (u * 3) (dimensions_of u))
          (forms_from (words_in P) P.depth (v * 3) (dimensions_of u))

      decided : answer ≡ t || forms
      unfolding is_apart is_empty nest_of
      decided = rw (
        access-read p.flat-nest u p.first,
        access-read p.flat-nest v p.second,
        eq-eqb (array_of u) (array_of v) e,
        g,
        q.are,
        e,
      )

      pub apart-empty : t ≡ true → true ≡ answer
      apart-empty f = sym (decided ∙ ap (◌|| forms) f)

      pub apart-forms : t ≡ false → (r : Bool) → r ≡ forms → r ≡ answer
      apart-forms f r k = k ∙ sym (decided ∙ ap (◌|| forms) f)
