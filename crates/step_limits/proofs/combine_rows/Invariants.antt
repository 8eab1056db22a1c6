use mathlib.Core.Path.{◌≡◌}
use Prim.Native.Nat.{◌≤◌}
use lib.ListN.{length, take}
use Rattle.step_limits.specs.Makes.{mixed}
use Rattle.step_limits.proofs.combine_rows.Given as goal

abbrev pub invariant-loop-k : goal.invariant-loop-k
invariant-loop-k l = (l.k ≤ l.n) × (length l.r ≡ 6) × (take l.k l.r ≡ mixed l.u l.v (take l.k l.xs) (take l.k l.ys))
