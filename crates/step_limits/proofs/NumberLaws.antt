-- Sums and products of numbers within ±32767 fit 32 bits, and the machine reads back what it wrote.
use mathlib.Core.Path.{◌≡◌, refl, ◌∙◌}
use mathlib.Core.List.{[], ◌∷◌}
use Prim.Native.Nat.{ℕ, ◌<◌, ◌≤◌, ◌*◌, ◌^◌}
use native.Mathlib.Omega.{arith}
use native.Mathlib.Nat.{mul-le-mul}
use lib.Dec.{T}
use lib.IntN.{ℤ, pos, negsuc, neg_ℤ, nat_abs, ◌+ℤ◌, ◌-ℤ◌, ◌*ℤ◌}
use lib.Signed.{◌≤ℤ◌, non_neg}
use mir.Syntax.{w32}
use mir.Val.{SFits, Fits, to_z, of_z}
use mir.Facts.{to_z-of_z, to_z_pos}
use Rattle.integers.specs.Difference.{size}
use Rattle.integers.proofs.Linear.{lin, ◌≐◌}
use Rattle.integers.proofs.Polynomial.{◌⊕◌, ◌⊖◌, ◌⊗◌, ⊝, #}
use Rattle.integers.proofs.RangeLaws.{size-add, size-sub, size-mul, size-nat_abs, sfits}
use Rattle.model.specs.Grammar.{most_factor}
use Rattle.model.specs.Ranges.{InRange}

-- ---- one number

pub size_fits : {z : ℤ} {n : ℕ} → size z ≤ n → n < 2 ^ 31 → SFits w32 z
size_fits {z} {n} h g = sfits (omega arith)

pub small-fits : (z : ℤ) → size z ≤ 32767 → SFits w32 z
small-fits z h = size_fits h (omega arith)

pub small-back : (z : ℤ) → size z ≤ 32767 → to_z w32 (of_z w32 z) ≡ z
small-back z h = to_z-of_z (small-fits z h)

-- a factor that was read
pub factor-small : (c : ℤ) → InRange 1 most_factor (nat_abs c) → size c ≤ 32767
factor-small c h = let g = h.high in omega (arith, size-nat_abs c)

pub fits_below : {n : ℕ} → n < 2 ^ 32 → Fits w32 n
fits_below h = record { fits = h }

-- a number that becomes a multiplier
pub cast_fits : (z : ℤ) → pos 0 ≤ℤ z → size z ≤ 32767 → T (non_neg z) × Fits w32 (nat_abs z)
cast_fits (pos n) h g = (tt, record { fits = omega arith })
cast_fits (negsuc n) h g = absurd h.le

-- a multiplier that is read as signed
pub read-multiplier : (n : ℕ) → n ≤ 32767 → to_z w32 n ≡ pos n
read-multiplier n h = to_z_pos w32 (omega arith)

pub small-multiplier : (n : ℕ) → n ≤ 32767 → size (to_z w32 n) ≤ 32767
small-multiplier n h = rw (read-multiplier n h) (omega arith)

-- ---- a multiplier times a width

pub widened : (p w : ℕ) → p ≤ 32767 → w ≤ 256 → p * w ≤ 8388352
widened p w h g = mul-le-mul h g

pub read-widened : (n : ℕ) → n ≤ 8388352 → to_z w32 n ≡ pos n
read-widened n h = to_z_pos w32 (omega arith)

-- k is the width, or one less
module _ (p k : ℕ) (h : p ≤ 32767) (g : k ≤ 256) where
  pub product-fits : Fits w32 (p * k)
  product-fits = fits_below (omega (arith, widened p k h g))

  pub product-signed : SFits w32 (pos (p * k))
  product-signed = sfits (omega (arith, widened p k h g))

pub less-fits : (k : ℤ) (n : ℕ) → size k ≤ 32767 → n ≤ 8388352 → SFits w32 (k -ℤ pos n)
less-fits k n h g = size_fits {n = 8421119} (omega (arith, size-sub k (pos n))) (omega arith)

-- p k taken from a constant
module _ (c : ℤ) (p k : ℕ) (s : size c ≤ 32767) (h : p ≤ 32767) (g : k ≤ 256) where
  less : to_z w32 (of_z w32 c) -ℤ to_z w32 (p * k) ≡ c -ℤ pos (p * k)
  less = rw (small-back c s, read-widened (p * k) (widened p k h g)) refl

  pub taken-fits : SFits w32 (to_z w32 (of_z w32 c) -ℤ to_z w32 (p * k))
  taken-fits = rw less (less-fits c (p * k) s (widened p k h g))

  pub taken_is : to_z w32 (of_z w32 (to_z w32 (of_z w32 c) -ℤ to_z w32 (p * k))) ≡ c -ℤ pos (p * k)
  taken_is = to_z-of_z taken-fits ∙ less

-- ---- sums and products

pub times-fits : (x : ℤ) (w : ℕ) → size x ≤ 32767 → w ≤ 32767 → SFits w32 (x *ℤ pos w)
times-fits x w h g = let k : size (pos w) ≤ 32767 = omega arith in size_fits {n = 1073676289} (size-mul x (pos w) h k) (omega arith)

pub zero-less : (z : ℤ) → pos 0 -ℤ z ≡ neg_ℤ z
zero-less z = lin (z ∷ []) (λ z. # 0 ⊖ z ≐ ⊝ z) tt

-- x + c y, and x − c y by the factor −c
pub plus-fits : (x c y : ℤ) → size x ≤ 32767 → size c ≤ 32767 → size y ≤ 32767 → SFits w32 (c *ℤ y) × SFits w32 (x +ℤ (c *ℤ y))
plus-fits x c y h f g =
    let p : size (c *ℤ y) ≤ 1073676289 = size-mul c y f g in
    (size_fits p (omega arith), size_fits {n = 1073709056} (omega (arith, size-add x (c *ℤ y))) (omega arith))

pub minus-times : (x c y : ℤ) → x +ℤ (neg_ℤ c *ℤ y) ≡ x -ℤ (c *ℤ y)
minus-times x c y = lin (x ∷ c ∷ y ∷ []) (λ x c y. x ⊕ (⊝ c ⊗ y) ≐ x ⊖ (c ⊗ y)) tt
