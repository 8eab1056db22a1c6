-- What the tests of subscripts need: one subscript, whose sums the machine makes exactly, then the place of each subscript of an access.
use mathlib.Core.Path.{◌≡◌, ◌∙◌}
use mathlib.Core.Bool.{true, false}
use mathlib.Core.List.{List}
use Prim.Native.Nat.{ℕ, ◌+◌, ◌*◌, ◌/◌, ◌≤◌, ◌<◌}
use native.Mathlib.Omega.{arith}
use lib.IntN.{ℤ, pos, ◌+ℤ◌}
use lib.Signed.{lt_z}
use lib.ListN.{length, get_or, take, drop}
use mir.Syntax.{w64}
use mir.Val.{SFits, to_z}
use Rattle.integers.specs.Difference.{size}
use Rattle.integers.proofs.RangeLaws.{back, size_fits, size-add, from-nat, test-lt, test-lt-no}
use Rattle.integers.proofs.AffineLaws.{within-at}
use Rattle.model.specs.Quick.{least_sum, greatest_sum}
use Rattle.model.specs.Grammar.{most_extents}
use Rattle.nest_index_range.proofs.LimitLaws.{copied}
use Rattle.nest_flat.specs.Layout.{form_at}
use Rattle.nest_elements.proofs.LayoutLaws.{array-in, array-ends}
use Rattle.nest_loop_ranges.specs.declared.Range.{Range}
use Rattle.nest_loop_ranges.specs.Ranges.{ranges_of}
use Rattle.nest_loop_ranges.proofs.TermLaws.{copy}
use Rattle.nest_bounding_box.specs.Subscripts.{Enclosed, SubscriptIn, AccessesIn}

-- ---- one subscript

module _ (c x : ℤ) (hc : size c ≤ 32767) (hx : size x ≤ 6442057734) where
  sums : copy c +ℤ copy x ≡ c +ℤ x
  sums = rw (copied c (omega arith), copied x (omega arith))

  pub sum_fits : SFits w64 (copy c +ℤ copy x)
  sum_fits = rw sums (size_fits {z = c +ℤ x} {n = 6442090501} (omega (arith, size-add c x)) (omega arith))

  sum-read : copy (copy c +ℤ copy x) ≡ c +ℤ x
  sum-read = back sum_fits ∙ sums

module _ {w : List ℤ} {j n extent : ℕ} {b : List Range} (p : SubscriptIn w j n extent b) {c : ℤ} (e : c ≡ get_or w (j * 8) (pos 0)) where
  pub constant-small : size c ≤ 32767
  constant-small = rw e (within-at 32767 w p.small (j * 8))

  pub subscript-enclosed : (x y : ℤ) → (x ≡ least_sum (take n (drop (j * 8 + 1) w)) (ranges_of n b)) × (size x ≤ 6442057734)
      → (y ≡ greatest_sum (take n (drop (j * 8 + 1) w)) (ranges_of n b)) × (size y ≤ 6442057734)
      → lt_z (copy (copy c +ℤ copy x)) (pos 0) ≡ false → lt_z (copy (copy c +ℤ copy y)) (to_z w64 extent) ≡ true
      → Enclosed (ranges_of n b) extent (form_at w n j)
  unfolding form_at
  subscript-enclosed x y hx hy f g =
      let h : to_z w64 extent ≡ pos extent = (let k = p.extents in from-nat (omega arith)) in record {
        low = test-lt-no {a = get_or w (j * 8) (pos 0) +ℤ least_sum (take n (drop (j * 8 + 1) w)) (ranges_of n b)} {b = pos 0}
            (rw (sum-read c x constant-small hx.1, e, hx.0) at f);
        high = test-lt {a = get_or w (j * 8) (pos 0) +ℤ greatest_sum (take n (drop (j * 8 + 1) w)) (ranges_of n b)} {b = pos extent}
            (rw (sum-read c y constant-small hy.1, e, hy.0, h) at g);
      }

-- ---- the subscripts of access k

module _ {w : List ℤ} {o a : List ℕ} {n : ℕ} {b : List Range} (p : AccessesIn w o a n b) {k : ℕ} (h : k < length o) where
  pub its-array : get_or o k 0 < length a / 4
  its-array = p.accesses.there k h

  pub its-array-ends : (get_or o k 0 * 4 + 4 ≤ length a) × (length a ≤ most_extents)
  its-array-ends = (array-ends a (get_or o k 0) (array-in w o a n (get_or o k 0) p.accesses its-array), p.accesses.few)

  pub flat : get_or a (get_or o k 0 * 4) 0 ≤ 3
  flat = p.accesses.dimensions (get_or o k 0) its-array

  pub subscript-in : (d : ℕ) → d < get_or a (get_or o k 0 * 4) 0 → SubscriptIn w (k * 3 + d) n (get_or a (get_or o k 0 * 4 + 1 + d) 0) b
  subscript-in d g = let f = flat in let v = p.accesses.words in let u = p.accesses.many in record {
    small = p.accesses.small;
    inside = omega arith;
    extents = p.accesses.extents (get_or o k 0 * 4 + 1 + d);
    ranges = p.ranges;
  }
