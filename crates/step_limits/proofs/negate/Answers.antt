use mathlib.Core.List.{[], ◌∷◌}
use Prim.Native.Nat.{◌≤◌}
use native.Mathlib.Omega.{arith}
use lib.IntN.{ℤ, pos, ◌-ℤ◌}
use mir.Syntax.{w32}
use mir.Val.{SFits}
use mir.Facts.{to_z-of_z}
use Rattle.integers.specs.Difference.{size}
use Rattle.integers.proofs.RangeLaws.{size-sub}
use Rattle.integers.proofs.Linear.{lin, ◌≐◌}
use Rattle.integers.proofs.Polynomial.{◌⊖◌, ⊝, #}
use Rattle.step_limits.proofs.NumberLaws.{size_fits}
use Rattle.step_limits.proofs.negate.Goals as goal

range : (x : ℤ) → size x ≤ 32767 → SFits w32 (pos 0 -ℤ x)
range x h = size_fits {n = 32767} (omega (arith, size-sub (pos 0) x)) (omega arith)

pub overflow_sub-result : goal.overflow_sub-result
overflow_sub-result c = simp (to_z-of_z, c.ranges.x) (range c.args.x c.requires)

pub returns : goal.returns
returns c = simp (to_z-of_z, c.ranges.x, range c.args.x c.requires) (lin (c.args.x ∷ []) (λ x. # 0 ⊖ x ≐ ⊝ x) tt)
