-- `same_row`: the first k numbers are the same.
use mathlib.Core.Path.{◌≡◌}
use Prim.Native.Nat.{◌≤◌}
use lib.ListN.{take, drop}
use Rattle.step_exchange_sides.proofs.same_row.Given as goal

abbrev pub invariant-loop-k : goal.invariant-loop-k
invariant-loop-k l = (l.k ≤ l.n) × (take l.k l.xs ≡ take l.k (drop l.at l.numbers))
