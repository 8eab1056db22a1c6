-- One limit: its words are small, so its value is, and the machine reads what the model says. Then its quotient by the multiplier.
use mathlib.Core.Path.{◌≡◌, refl, sym, ◌∙◌, ap, subst}
use mathlib.Core.List.{List, [], ◌∷◌}
use Prim.Native.Nat.{ℕ, zero, suc, ◌+◌, ◌*◌, ◌≤◌}
use native.Mathlib.Omega.{arith}
use native.Mathlib.Nat.{mul-le-mul_right}
use lib.IntN.{ℤ, pos, negsuc, nat_abs}
use lib.Signed.{◌<ℤ◌}
use lib.ListN.{length, get_or, take, drop, length-take, length-drop}
use mir.Syntax.{w64}
use mir.Val.{to_z, of_z}
use Rattle.integers.specs.Difference.{size}
use Rattle.integers.specs.Affine.{affine, affine_at, Within, AffineAt}
use Rattle.integers.proofs.RingLaws.{zarith}
use Rattle.integers.proofs.RangeLaws.{back, size_fits}
use Rattle.integers.proofs.AffineLaws.{within-at, within-take, affine-size, nest-affine}
use Rattle.model.specs.Points.{value}
use Rattle.nest_flat.specs.Flat.{limit_at}
use Rattle.nest_index_range.specs.Ranges.{Narrow, LimitIn, DivisorIn}
use Rattle.nest_index_range.specs.declared.Side.{Side}
use Rattle.nest_index_range.specs.Sides.{rounded}
use Rattle.nest_index_range.proofs.Sides.{rounded-size}

pub within-drop : (n : ℕ) (l : List ℤ) (i : ℕ) → Within n l → Within n (drop i l)
within-drop n l zero w = w
within-drop n [] (suc i) w = tt
within-drop n (x ∷ l) (suc i) w = within-drop n l i w.1

-- the machine's copy of a small number
pub copied : (z : ℤ) → Narrow z → to_z w64 (of_z w64 z) ≡ z
copied z h = back (size_fits h (omega arith))

abbrev coefficients : List ℤ → ℕ → List ℤ → List ℤ
coefficients s j outer = take (length outer) (drop (j * 8 + 2) s)

module _ {s : List ℤ} {j : ℕ} {outer : List ℤ} (p : LimitIn s j outer) where
  word : (i : ℕ) → size (get_or s i (pos 0)) ≤ 32767
  word i = within-at 32767 s p.small i

  pub read_word : (i : ℕ) → to_z w64 (of_z w64 (get_or s i (pos 0))) ≡ get_or s i (pos 0)
  read_word i = let w = word i in copied (get_or s i (pos 0)) (omega arith)

  matched : length outer ≡ length (coefficients s j outer)
  matched = let a = length-take (length outer) (drop (j * 8 + 2) s) in let b = length-drop (j * 8 + 2) s in
      let w = p.words in let i = p.inside in let f = p.outside.few in omega arith

  small : Within 32767 (coefficients s j outer)
  small = within-take 32767 (drop (j * 8 + 2) s) (length outer) (within-drop 32767 s (j * 8 + 2) p.small)

  place_is : j * 8 + 1 + 1 ≡ j * 8 + 2
  place_is = omega arith

  pub affine-in : AffineAt s (j * 8 + 1) outer
  affine-in = let w = p.words in let i = p.inside in let f = p.outside.few in let m = matched in
      record { inside = omega arith; lent = rw place_is (nest-affine m (omega arith) (word (j * 8 + 1)) small p.outside.near) }

  value-size : Narrow (value (limit_at s (length outer) j) outer)
  unfolding value limit_at
  value-size = let m = matched in let f = p.outside.few in let w = word (j * 8 + 1) in let g : length (coefficients s j outer) ≤ 6 = omega arith in
      omega (
        arith,
        affine-size 32767 100000 (get_or s (j * 8 + 1) (pos 0)) (coefficients s j outer) outer small p.outside.near,
        mul-le-mul_right
            (32767 * 100000) g,
      )

  pub value-is : (r : ℤ) → r ≡ affine_at s (j * 8 + 1) outer → (to_z w64 (of_z w64 r) ≡ value (limit_at s (length outer) j) outer)
      × Narrow (to_z w64 (of_z w64 r))
  unfolding value limit_at affine_at
  value-is r e =
      let f : r ≡ value (limit_at s (length outer) j) outer = e
      ∙ ap (λ (k : ℕ). affine (get_or s (j * 8 + 1) (pos 0)) (take (length outer) (drop k s)) outer) place_is in
      let v = value-size in
      let g : to_z w64 (of_z w64 r) ≡ value (limit_at s (length outer) j) outer = ap (λ (z : ℤ). to_z w64 (of_z w64 z)) f ∙ copied _ v in
      (g, subst Narrow (sym g) v)

-- ---- the quotient

multiplier-is : (z : ℤ) → pos 0 <ℤ z → pos (nat_abs z) ≡ z
multiplier-is (pos n) h = refl
multiplier-is (negsuc n) h = absurd (omega zarith)

-- what the machine keeps of a quotient of a small number
pub rounded-is : (d : Side) (z m r : ℤ) → Narrow z → r ≡ rounded d z m → (to_z w64 (of_z w64 r) ≡ rounded d z m) × Narrow (to_z w64 (of_z w64 r))
rounded-is d z m r h e =
    let k : Narrow r = subst Narrow (sym e) (omega (arith, rounded-size d z m)) in
    let g = copied r k in (g ∙ e, rw g k)

module _ {s : List ℤ} {j : ℕ} {outer : List ℤ} (p : DivisorIn s j outer) {m : ℤ} (w : m ≡ get_or s (j * 8) (pos 0)) where
  divisor-is : to_z w64 (of_z w64 m) ≡ pos (limit_at s (length outer) j).multiplier
  unfolding limit_at
  divisor-is = ap (λ (z : ℤ). to_z w64 (of_z w64 z)) w ∙ read_word p.limit (j * 8) ∙ sym (multiplier-is (get_or s (j * 8) (pos 0)) p.positive)

  pub divisor-positive : pos 0 <ℤ to_z w64 (of_z w64 m)
  divisor-positive = rw (w, read_word p.limit (j * 8)) p.positive

  -- rounded as the limits of a side are
  pub quotient_is : (d : Side) (v r : ℤ) → (v ≡ value (limit_at s (length outer) j) outer) × Narrow v
      → r ≡ rounded d (to_z w64 (of_z w64 v)) (to_z w64 (of_z w64 m))
      → (to_z w64 (of_z w64 r) ≡ rounded d (value (limit_at s (length outer) j) outer) (pos (limit_at s (length outer) j).multiplier))
      × Narrow (to_z w64 (of_z w64 r))
  quotient_is d v r q e = rounded-is d (value (limit_at s (length outer) j) outer) (pos (limit_at s (length outer) j).multiplier) r
      (subst Narrow q.0 q.1) (e ∙ rw (copied v q.1, divisor-is, q.0))
