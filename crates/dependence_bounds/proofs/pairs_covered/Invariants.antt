-- `pairs_covered`: those before a are covered.
use Prim.Native.Nat.{◌-◌, ◌≤◌}
use lib.ListN.{length}
use Rattle.dependence_bounds.specs.AccessPairs.{pairs_in}
use Rattle.dependence_bounds.specs.Covered.{CoveredTo}
use Rattle.dependence_bounds.proofs.pairs_covered.Given as goal

abbrev pub invariant-loop-a : goal.invariant-loop-a
invariant-loop-a l = (l.a ≤ length l.lent.accessed.now)
    × CoveredTo (pairs_in l.lent) l.marks l.a
