-- `source_covered`: those before b are covered.
use Prim.Native.Nat.{◌-◌, ◌≤◌}
use lib.ListN.{length}
use Rattle.dependence_bounds.specs.AccessPairs.{pairs_in}
use Rattle.dependence_bounds.specs.Covered.{CoveredFrom}
use Rattle.dependence_bounds.proofs.source_covered.Given as goal

abbrev pub invariant-loop-b : goal.invariant-loop-b
invariant-loop-b l = (l.b ≤ length l.lent.accessed.now)
    × CoveredFrom (pairs_in l.lent) l.marks l.a l.b
