-- The first and the last value of a part, in 64 bits and in 32.
use mathlib.Core.Path.{◌≡◌}
use Prim.Native.Nat.{ℕ, ◌≤◌}
use native.Mathlib.Omega.{arith}
use lib.IntN.{ℤ, ◌+ℤ◌, ◌-ℤ◌}
use mir.Syntax.{w32, w64}
use mir.Val.{SFits}
use Rattle.integers.specs.Difference.{size}
use Rattle.integers.specs.Division.{floor_div}
use Rattle.integers.proofs.RangeLaws.{size-add, size-sub, size_fits, sfits, back}
use Rattle.integers.proofs.DivisionLaws.{size-floor}
use Rattle.nest_loop_ranges.specs.declared.Range.{Range}
use Rattle.nest_loop_ranges.specs.Ranges.{range_as, NearRange}
use Rattle.nest_loop_ranges.proofs.TermLaws.{copy}

module _ (z : ℤ) {n : ℕ} (h : size z ≤ n) (g : n ≤ 65662) where
  kept : copy z ≡ z
  kept = back {z = z} (size_fits h (omega arith))

  pub kept-size : size (copy z) ≤ n
  kept-size = rw kept h

  pub narrow-fits : SFits w32 (copy z)
  narrow-fits = rw kept (sfits (omega (arith, h)))

-- ---- the first

module _ (r : Range) (p : ℤ) (h : NearRange (range_as r) × (size p ≤ 64)) where
  abbrev ends : ℤ
  ends = copy r.least +ℤ copy r.greatest

  ends-size : size ends ≤ 65534
  ends-size = omega (
    arith,
    size-add (copy r.least) (copy r.greatest),
    kept-size r.least h.0.low (omega arith),
    kept-size r.greatest
        h.0.high (omega arith),
  )

  pub ends-fit : SFits w64 ends
  ends-fit = size_fits ends-size (omega arith)

  rest-size : size (copy ends -ℤ copy p) ≤ 65598
  rest-size = omega (arith, size-sub (copy ends) (copy p), kept-size ends ends-size (omega arith), kept-size p h.1 (omega arith))

  pub rest-fits : SFits w64 (copy ends -ℤ copy p)
  rest-fits = size_fits rest-size (omega arith)

  pub half-size : (d q : ℤ) → q ≡ floor_div (copy (copy ends -ℤ copy p)) d → size (copy q) ≤ 65598
  half-size d q e = kept-size q (rw e (omega (
    arith,
    size-floor (copy (copy ends -ℤ copy p)) d,
    kept-size (copy ends -ℤ copy p) rest-size (omega
        arith),
  ))) (omega arith)

-- ---- the last

module _ (v p : ℤ) (h : size v ≤ 65598) (g : size p ≤ 64) where
  last-size : size (copy v +ℤ copy p) ≤ 65662
  last-size = omega (arith, size-add (copy v) (copy p), kept-size v h (omega arith), kept-size p g (omega arith))

  pub last_fits : SFits w64 (copy v +ℤ copy p)
  last_fits = size_fits last-size (omega arith)

  pub last-narrow : SFits w32 (copy (copy v +ℤ copy p))
  last-narrow = narrow-fits (copy v +ℤ copy p) last-size (omega arith)
