-- One term of a sum: a coefficient times an end of its index's range. What the machine makes of it is what the model says.
use mathlib.Core.Path.{◌≡◌, sym, ◌∙◌}
use mathlib.Core.Bool.{true, false}
use Prim.Native.Nat.{◌≤◌}
use native.Mathlib.Omega.{arith}
use lib.IntN.{ℤ, pos, ◌+ℤ◌, ◌*ℤ◌}
use lib.Signed.{lt_z}
use mir.Syntax.{w64}
use mir.Val.{SFits, to_z, of_z}
use Rattle.integers.specs.Difference.{size}
use Rattle.integers.proofs.RangeLaws.{back, size_fits, size-add, size-mul}
use Rattle.nest_index_range.proofs.LimitLaws.{copied}
use Rattle.nest_loop_ranges.specs.Ranges.{term_by, TermIn}

-- the machine's copy
abbrev pub copy : ℤ → ℤ
copy z = to_z w64 (of_z w64 z)

-- ---- a sum and a product more

module _ (e c x : ℤ) (he : size e ≤ 17179869184) (hc : size c ≤ 32767) (hx : size x ≤ 32767) where
  product-size : size (c *ℤ x) ≤ 1073676289
  product-size = size-mul c x hc hx

  factors : copy c *ℤ copy x ≡ c *ℤ x
  factors = rw (copied c (omega arith), copied x (omega arith))

  pub product-fits : SFits w64 (copy c *ℤ copy x)
  product-fits = rw factors (size_fits {z = c *ℤ x} product-size (omega arith))

  addends : copy e +ℤ copy (copy c *ℤ copy x) ≡ e +ℤ c *ℤ x
  addends = rw (back product-fits, factors, copied e (omega arith))

  pub sum_fits : SFits w64 (copy e +ℤ copy (copy c *ℤ copy x))
  sum_fits = rw addends (size_fits {z = e +ℤ c *ℤ x} {n = 34359738368} (omega (arith, product-size, size-add e (c *ℤ x))) (omega arith))

  pub sum_is : copy (copy e +ℤ copy (copy c *ℤ copy x)) ≡ e +ℤ c *ℤ x
  sum_is = back sum_fits ∙ addends

-- ---- by the coefficient's sign

module _ (e c x y : ℤ) (p : TermIn e c x y) where
  sign-is : lt_z (pos 0) (copy c) ≡ lt_z (pos 0) c
  sign-is = let h = p.coefficient in rw (copied c (omega arith))

  pub term-up : lt_z (pos 0) (copy c) ≡ true → copy (copy e +ℤ copy (copy c *ℤ copy x)) ≡ e +ℤ term_by c x y
  unfolding term_by
  term-up t = sum_is e c x p.sum p.coefficient p.up ∙ rw (sym sign-is ∙ t)

  pub term-down : lt_z (pos 0) (copy c) ≡ false → copy (copy e +ℤ copy (copy c *ℤ copy y)) ≡ e +ℤ term_by c x y
  unfolding term_by
  term-down t = sum_is e c y p.sum p.coefficient p.down ∙ rw (sym sign-is ∙ t)
