-- `index_changes`. The loop's invariant: the points before x have at loop k the index that the points of their links have.
use Prim.Native.Nat.{◌-◌}
use Rattle.dependence_pair_search.specs.Search.{Level}
use Rattle.dependence_pair_search.proofs.index_changes.Given as goal

abbrev pub invariant-loop-x : goal.invariant-loop-x
invariant-loop-x l = Level l.depth l.points l.x l.links l.k
