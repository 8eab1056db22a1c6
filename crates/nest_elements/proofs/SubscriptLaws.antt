-- The form of one subscript at a point: its words are small, so its value is. Then the test against its extent.
use mathlib.Core.Path.{◌≡◌, sym, ◌∙◌, ap, ap₂}
use mathlib.Core.Bool.{true, false}
use mathlib.Core.List.{List}
use Prim.Native.Nat.{ℕ, ◌*◌, ◌≤◌}
use native.Mathlib.Omega.{arith}
use native.Mathlib.Nat.{mul-le-mul_right}
use lib.IntN.{ℤ, pos}
use lib.Signed.{lt_z, le_z}
use lib.ListN.{length, get_or, take, drop, length-drop}
use lib.Seq.{length-take-le}
use mir.Syntax.{w64}
use mir.Val.{to_z, of_z}
use Rattle.integers.specs.Affine.{Within}
use Rattle.integers.proofs.RangeLaws.{from-nat}
use Rattle.integers.proofs.AffineLaws.{within-at, within-take, affine-size, nest-affine}
use Rattle.nest_index_range.proofs.LimitLaws.{copied, within-drop}
use Rattle.nest_index_range.specs.Ranges.{Narrow}
use Rattle.nest_elements.specs.Search.{off}
use Rattle.nest_elements.specs.Forms.{value_at, ValueIn}

module _ (f point : List ℤ) (words : length f ≡ 8) (small : Within 32767 f) (few : length point ≤ 6) (near : Within 100000 point) where
  abbrev coefficients : List ℤ
  coefficients = take (length point) (drop 1 f)

  matched : length point ≡ length coefficients
  matched = let d = length-drop 1 f in sym (length-take-le (length point) (drop 1 f) (omega arith))

  small-coefficients : Within 32767 coefficients
  small-coefficients = within-take 32767 (drop 1 f) (length point) (within-drop 32767 f 1 small)

  value-size : Narrow (value_at f point)
  unfolding value_at
  value-size = let m = matched in let h = within-at 32767 f small 0 in let g : length coefficients ≤ 6 = omega arith in
      omega (arith, affine-size 32767 100000 (get_or f 0 (pos 0)) coefficients point small-coefficients near, mul-le-mul_right (32767 * 100000) g)

  pub subscript-in : ValueIn f point
  subscript-in = let m = matched in record {
    words = words;
    few = few;
    lent = nest-affine m (omega arith) (within-at 32767 f small 0)
        small-coefficients near;
    narrow = value-size;
  }

-- ---- the test

module _ (extent : ℕ) (x z : ℤ) (h : extent ≤ 4096) (e : x ≡ z) (b : Narrow x) where
  read : to_z w64 (of_z w64 x) ≡ z
  read = copied x b ∙ e

  pub off-below : lt_z (to_z w64 (of_z w64 x)) (pos 0) ≡ true → true ≡ off extent z
  unfolding off
  off-below t = let f : lt_z z (pos 0) ≡ true = ap (λ (y : ℤ). lt_z y (pos 0)) (sym read) ∙ t in rw f

  pub off-above : lt_z (to_z w64 (of_z w64 x)) (pos 0) ≡ false → le_z (to_z w64 extent) (to_z w64 (of_z w64 x)) ≡ off extent z
  unfolding off
  off-above t = let f : lt_z z (pos 0) ≡ false = ap (λ (y : ℤ). lt_z y (pos 0)) (sym read) ∙ t in rw f (ap₂ le_z (from-nat (omega arith)) read)
