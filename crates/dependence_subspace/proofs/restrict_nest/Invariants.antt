-- `restrict_nest`: the loops before k are shortened.
use Prim.Native.Nat.{◌≤◌}
use Rattle.dependence_subspace.specs.Subspaces.{Narrower}
use Rattle.dependence_subspace.proofs.restrict_nest.Given as goal

abbrev pub invariant-loop-k : goal.invariant-loop-k
invariant-loop-k l = (l.k ≤ l.depth) × Narrower l.initial.limits l.initial.counts l.depth l.limits l.counts
