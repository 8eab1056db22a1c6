-- `next_missing`. The loop's invariant: w is reached by steps, and all on the way that can be found are marked.
use Prim.Native.Nat.{◌-◌}
use Rattle.dependence_pair_search.specs.Search.{Passed}
use Rattle.dependence_pair_search.proofs.next_missing.Given as goal

abbrev pub invariant-loop-w : goal.invariant-loop-w
invariant-loop-w l = Passed l.varying l.base l.marks l.step l.v l.w

abbrev pub decreases-loop-w : goal.decreases-loop-w
decreases-loop-w l = l.end - l.w
