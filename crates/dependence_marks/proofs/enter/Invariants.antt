-- `enter`: one access after the other.
use Prim.Native.Nat.{◌-◌}
use Rattle.dependence_marks.proofs.UseLaws.{Entering}
use Rattle.dependence_marks.proofs.enter.Given as goal

abbrev pub invariant-loop-k : goal.invariant-loop-k
invariant-loop-k l = Entering l.initial.statements l.statements l.initial.writes l.writes l.first l.size l.s l.k
