use mir.Facts.{to_z-of_z}
use lib.IntN.{ℤ, pos, ◌-ℤ◌}
use native.Mathlib.Omega.{arith}
use Prim.Native.Nat.{◌≤◌}
use mir.Syntax.{w64}
use mir.Val.{SFits}
use Rattle.integers.specs.Difference.{size}
use Rattle.integers.proofs.RangeLaws.{size-sub, size_fits}
use Rattle.step_limits.proofs.NumberLaws.{zero-less}
use Rattle.step_points.specs.Points.{farthest}
use Rattle.step_points.proofs.negate.Goals as goal

range : (x : ℤ) → size x ≤ farthest → SFits w64 (pos 0 -ℤ x)
range x h = size_fits {n = farthest} (omega (arith, size-sub (pos 0) x)) (omega arith)

pub overflow_sub-result : goal.overflow_sub-result
overflow_sub-result c = simp (to_z-of_z, c.ranges.x) (range c.args.x c.requires)

pub returns : goal.returns
returns c = simp (to_z-of_z, c.ranges.x, range c.args.x c.requires) (zero-less c.args.x)
