-- The searches, each left by the first that it finds: an empty range, then a dimension that is apart. What is asked of all is asked of those
-- that are left.
use mathlib.Core.Path.{◌≡◌, sym, ◌∙◌, ap}
use mathlib.Core.Bool.{Bool, true, false, ◌||◌}
use mathlib.Core.List.{List, ◌∷◌, ◌++◌}
use Prim.Native.Nat.{ℕ, suc, ◌+◌, ◌-◌, ◌<◌}
use native.Mathlib.Omega.{arith}
use lib.IntN.{ℤ}
use lib.Signed.{lt_z}
use lib.ListN.{get_or, drop}
use lib.Seq.{drop-cons}
use Rattle.lists.specs.Tests.{any}
use Rattle.model.specs.Quick as Model
use Rattle.model.specs.Quick.{ranges, never_zero, some_apart}
use Rattle.nest_index_range.proofs.LimitLaws.{copied}
use Rattle.nest_flat.specs.Layout.{forms_from}
use Rattle.nest_loop_ranges.specs.declared.Range.{Range}
use Rattle.nest_loop_ranges.specs.Ranges.{range_as, ranges_of, is_empty, NearRange, RangesIn}
use Rattle.nest_quick_test.specs.Differences.{difference_at, DifferenceIn, FormsIn}
use Rattle.nest_loop_ranges.proofs.TermLaws.{copy}
use Rattle.nest_loop_ranges.proofs.SumLaws.{no_range}

-- ---- an empty range

pub empty-is : (r : Range) → NearRange (range_as r) → lt_z (copy r.greatest) (copy r.least) ≡ is_empty (range_as r)
unfolding is_empty
empty-is r p = let a = p.low in let b = p.high in rw (copied r.greatest (omega arith), copied r.least (omega arith))

empty-first : (b rest : List Range) (r : Range) (k m : ℕ) → k ≡ suc m → b ≡ r ∷ rest
    → any is_empty (ranges_of k b) ≡ is_empty (range_as r) || any is_empty (ranges_of m rest)
unfolding any ranges_of
empty-first b rest r k m e f = rw (e, f)

-- the ranges from i on are left
pub record RangesLeft (b : List Range) (n i : ℕ) : Type 0 where
  pub is : any is_empty (ranges_of n b) ≡ any is_empty (ranges_of (n - i) (drop i b))

pub all-ranges-left : (b : List Range) (n : ℕ) → RangesLeft b n 0
all-ranges-left b n = let z : n - 0 ≡ n = omega arith in record { is = sym (rw z) }

module _ (b : List Range) (n i : ℕ) (p : RangesIn n b) (h : i < n) (q : RangesLeft b n i) (t : Bool) (e : t ≡ is_empty (range_as (get_or b i no_range)))
  where
    splits : any is_empty (ranges_of n b) ≡ t || any is_empty (ranges_of (n - (i + 1)) (drop (i + 1) b))
    splits = let s = p.six in let f = p.few in let a : i + 1 ≡ suc i = omega arith in
        q.is ∙ empty-first (drop i b) (drop (i + 1) b) (get_or b i no_range) (n - i) (n - (i + 1)) (omega arith)
        (rw a (drop-cons b i no_range (omega arith))) ∙ rw e

    pub empty-found : t ≡ true → true ≡ any is_empty (ranges_of n b)
    empty-found f = sym (splits ∙ ap (◌|| any is_empty (ranges_of (n - (i + 1)) (drop (i + 1) b))) f)

    pub fewer-ranges-left : t ≡ false → RangesLeft b n (i + 1)
    fewer-ranges-left f = record { is = splits ∙ ap (◌|| any is_empty (ranges_of (n - (i + 1)) (drop (i + 1) b))) f }

pub no-range-left : (b : List Range) (n i : ℕ) → i ≡ n → RangesLeft b n i → false ≡ any is_empty (ranges_of n b)
unfolding any ranges_of
no-range-left b n i e q = let z : n - i ≡ 0 = omega arith in sym (q.is ∙ rw z)

-- ---- a dimension that is apart

apart-first : (rs : List Model.Range) (w : List ℤ) (n u v k m i j : ℕ) → k ≡ suc m → i ≡ suc u → j ≡ suc v
    → some_apart rs (forms_from w n u k) (forms_from w n v k) ≡ never_zero (rs ++ rs) (difference_at w n u v) || some_apart rs (forms_from w n i m)
    (forms_from w n j m)
unfolding some_apart forms_from difference_at
apart-first rs w n u v k m i j e f g = rw (e, f, g)

-- the dimensions from i on are left
pub record FormsLeft (rs : List Model.Range) (w : List ℤ) (u v d n i : ℕ) : Type 0 where
  pub is : some_apart rs (forms_from w n u d) (forms_from w n v d) ≡ some_apart rs (forms_from w n (u + i) (d - i)) (forms_from w n (v + i) (d - i))

pub all-forms-left : (rs : List Model.Range) (w : List ℤ) (u v d n : ℕ) → FormsLeft rs w u v d n 0
all-forms-left rs w u v d n = let z : d - 0 ≡ d = omega arith in let x : u + 0 ≡ u = omega arith in let y : v + 0 ≡ v = omega arith
    in record { is = sym (rw (z, x, y)) }

pub form-pair-in : (w : List ℤ) (u v d n : ℕ) (b : List Range) → FormsIn w u v d n b → (i : ℕ) → i < d → DifferenceIn w (u + i) (v + i) n b
form-pair-in w u v d n b p i h = let a = p.first in let e = p.second in
    record {
      pair = record {
        first = record { small = p.small; inside = omega arith; few = p.ranges.few };
        second = record { small = p.small; inside = omega arith; few = p.ranges.few };
      };
      ranges = p.ranges;
    }

module _ (rs : List Model.Range) (w : List ℤ) (u v d n i : ℕ) (h : i < d) (q : FormsLeft rs w u v d n i) (t : Bool)
    (e : t ≡ never_zero (rs ++ rs) (difference_at w n (u + i) (v + i))) where
  divided : some_apart rs (forms_from w n u d) (forms_from w n v d) ≡ t || some_apart rs (forms_from w n (u + (i + 1)) (d - (i + 1)))
      (forms_from w n (v + (i + 1)) (d - (i + 1)))
  divided = q.is ∙ apart-first rs w n (u + i) (v + i) (d - i) (d - (i + 1)) (u + (i + 1)) (v + (i + 1)) (omega arith) (omega arith) (omega arith)
      ∙ rw e

  pub apart-found : t ≡ true → true ≡ some_apart rs (forms_from w n u d) (forms_from w n v d)
  apart-found f = sym (divided ∙ ap (◌|| some_apart rs (forms_from w n (u + (i + 1)) (d - (i + 1))) (forms_from w n (v + (i + 1)) (d - (i + 1)))) f)

  pub fewer-forms-left : t ≡ false → FormsLeft rs w u v d n (i + 1)
  fewer-forms-left f = record {
    is = divided ∙ ap (◌|| some_apart rs (forms_from w n (u + (i + 1)) (d - (i + 1)))
        (forms_from w n (v + (i + 1)) (d - (i + 1)))) f;
  }

pub no-form-left : (rs : List Model.Range) (w : List ℤ) (u v d n i : ℕ) → i ≡ d → FormsLeft rs w u v d n i
    → false ≡ some_apart rs (forms_from w n u d) (forms_from w n v d)
unfolding some_apart forms_from
no-form-left rs w u v d n i e q = let z : d - i ≡ 0 = omega arith in sym (q.is ∙ rw z)
