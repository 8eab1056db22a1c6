-- The ranges one by one as the code meets them: uncut, its width, then the box with one range more.
use mathlib.Core.Path.{◌≡◌, refl, sym, ◌∙◌, ap}
use mathlib.Core.Bool.{true, false}
use mathlib.Core.List.{List, [], ◌∷◌, ◌++◌, map, map-append}
use Prim.Native.Nat.{ℕ, zero, suc, ◌+◌, ◌*◌, ◌≤◌, ◌<◌}
use native.Mathlib.Omega.{arith}
use native.Mathlib.Nat.{mul-one, one-mul, mul_assoc}
use native.Mathlib.Decide.{dec_le}
use native.Mathlib.Numerals.{add-one}
use lib.IntN.{ℤ, pos, negsuc, ◌-ℤ◌}
use lib.Signed.{lt_z, le_z}
use lib.ListN.{length, get_or, take, length-append}
use lib.Seq.{take-suc, take-append-le, take_all}
use Rattle.integers.proofs.RangeLaws.{test-lt, test-le-no}
use Rattle.lists.proofs.MembershipLaws.{all_nil, all_cons, all_append}
use Rattle.model.specs.Points.{span}
use Rattle.model.specs.Quick as Model
use Rattle.nest_index_range.specs.Ranges.{Narrow}
use Rattle.nest_index_range.proofs.LimitLaws.{copied}
use Rattle.nest_loop_ranges.specs.declared.Range.{Range}
use Rattle.nest_loop_ranges.specs.Ranges.{range_as, ranges_of, NearRange}
use Rattle.nest_loop_ranges.proofs.TermLaws.{copy}
use Rattle.nest_loop_ranges.proofs.SumLaws.{no_range}
use Rattle.nest_bounding_box.specs.Boxes.{width, volume, Unclamped, Compact}

-- ---- one range

module _ (r : Range) (p : NearRange (range_as r)) where
  abbrev low : ℤ
  low = r.least

  abbrev high : ℤ
  high = r.greatest

  low_read : copy low ≡ low
  low_read = let h = p.low in copied low (omega arith)

  high_read : copy high ≡ high
  high_read = let h = p.high in copied high (omega arith)

  pub unclamped-is : le_z (copy low) (negsuc 32766) ≡ false → lt_z (copy high) (pos 32767) ≡ true → Unclamped (range_as r)
  unclamped-is e f = record {
    low = test-le-no {a = low} {b = negsuc 32766} (rw low_read at e);
    high = test-lt {a = high} {b = pos 32767}
        (rw high_read at f);
  }

  pub ends-narrow : Narrow (copy low) × Narrow (copy high)
  ends-narrow = let a = p.low in let b = p.high in (rw low_read (omega arith), rw high_read (omega arith))

  pub width_is : (w : ℕ) → (w ≡ span (copy high -ℤ copy low)) × (w ≤ 68719476737) → (w ≡ width (range_as r)) × (w ≤ 68719476737)
  unfolding width
  width_is w h = (h.0 ∙ rw (high_read, low_read), h.1)

-- ---- the box with one range more

volume-snoc : (rs : List Model.Range) (r : Model.Range) → volume (rs ++ (r ∷ [])) ≡ volume rs * width r
unfolding volume
volume-snoc [] r = mul-one (width r) ∙ sym (one-mul (width r))
volume-snoc (x ∷ rs) r = ap (width x *◌) (volume-snoc rs r) ∙ sym (mul_assoc (width x) (volume rs) (width r))

compact-snoc : (rs : List Model.Range) (r : Model.Range) → Compact rs → Unclamped r → volume (rs ++ (r ∷ [])) ≤ 65536 → Compact (rs ++ (r ∷ []))
compact-snoc rs r c u h = record {
  unclamped = all_append Unclamped rs (r ∷ []) c.unclamped (all_cons Unclamped u (all_nil Unclamped));
  few = λ k. few k (dec_le k (length rs));
}
  where
    few : (k : ℕ) → Dec (k ≤ length rs) → volume (take k (rs ++ (r ∷ []))) ≤ 65536
    few k (yes l) = rw (take-append-le k rs (r ∷ []) l) (c.few k)
    few k (no l) = rw (take_all k (rs ++ (r ∷ [])) (omega (arith, length-append rs (r ∷ [])))) h

ranges-snoc : (i : ℕ) (b : List Range) → i < length b → ranges_of (i + 1) b ≡ ranges_of i b ++ (range_as (get_or b i no_range) ∷ [])
unfolding ranges_of
ranges-snoc i b h = ap (λ (n : ℕ). map range_as (take n b)) (add-one i) ∙ ap (map range_as) (take-suc b i no_range h)
    ∙ map-append range_as (take i b) (get_or b i no_range ∷ [])

-- what the code's loop keeps: the first i ranges make a compact box of v points
pub record CompactTo (b : List Range) (i v : ℕ) : Type 0 where
  pub compact : Compact (ranges_of i b)
  pub count : v ≡ volume (ranges_of i b)
  pub small : v ≤ 65536

pub no-range : (b : List Range) → CompactTo b 0 1
unfolding ranges_of volume
no-range b = record { compact = record { unclamped = all_nil Unclamped; few = none }; count = refl; small = omega arith }
  where
    none : (k : ℕ) → volume (take k []) ≤ 65536
    none zero = omega arith
    none (suc k) = omega arith

pub one-range : (b : List Range) (i v w : ℕ) → i < length b → CompactTo b i v → Unclamped (range_as (get_or b i no_range))
    → w ≡ width (range_as (get_or b i no_range)) → v * w ≤ 65536 → CompactTo b (i + 1) (v * w)
one-range b i v w h c u e f =
    let s = ranges-snoc i b h in let g = c.count in
    let q : v * w ≡ volume (ranges_of i b ++ (range_as (get_or b i no_range) ∷ [])) = rw (e, g)
    (sym (volume-snoc (ranges_of i b) (range_as (get_or b i no_range)))) in
    record { compact = rw s (compact-snoc (ranges_of i b) (range_as (get_or b i no_range)) c.compact u (omega (arith, q))); count = rw s q; small = f }
