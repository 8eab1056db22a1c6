-- `find_varying`. The loop's invariant: every loop before k that is not said to vary has one index along each chain.
use mathlib.Core.Path.{◌≡◌}
use Prim.Native.Nat.{◌-◌, ◌≤◌}
use lib.ListN.{length}
use Rattle.dependence_pair_search.specs.Search.{LevelElse}
use Rattle.dependence_pair_search.proofs.find_varying.Given as goal

abbrev pub invariant-loop-k : goal.invariant-loop-k
invariant-loop-k l = (l.k ≤ l.depth) × (length l.varying ≡ length l.initial.varying)
    × LevelElse l.depth l.points l.count l.next l.start l.k l.varying
