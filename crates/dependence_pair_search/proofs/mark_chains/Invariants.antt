-- `mark_chains`. The loop's invariant: the marks of all sinks before y are set; once it is known which loops vary, the others do not; and every
-- vector before v that can be found is marked.
use mathlib.Core.Path.{◌≡◌}
use mathlib.Core.Bool.{true}
use Prim.Native.Nat.{◌-◌, ◌≤◌}
use lib.ListN.{length}
use Rattle.dependence_pair_search.specs.Search.{LevelElse}
use Rattle.dependence_pair_search.proofs.FullLaws.{Looking}
use Rattle.dependence_pair_search.proofs.SearchLaws.{Searching}
use Rattle.dependence_pair_search.proofs.mark_chains.Given as goal

abbrev pub invariant-loop-y : goal.invariant-loop-y
invariant-loop-y l = Searching l.points
    l.depth l.from l.to l.own l.base l.next l.start l.initial.marks l.marks l.spent l.y × (length l.varying ≡ 6)
    × (l.known ≡ true → LevelElse l.depth l.points (length l.from) l.next l.start l.depth l.varying) × Looking l.depth l.step l.varying l.base l.marks l.known l.v × (l.v ≤ 364)

abbrev pub decreases-loop-y : goal.decreases-loop-y
decreases-loop-y l = length l.from - l.y
