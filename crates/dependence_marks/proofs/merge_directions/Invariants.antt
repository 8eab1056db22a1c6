-- `merge_directions`: one row after the other.
use Prim.Native.Nat.{◌-◌}
use Rattle.dependence_marks.proofs.DirectionLaws.{Merging}
use Rattle.dependence_marks.proofs.merge_directions.Given as goal

abbrev pub invariant-loop-b : goal.invariant-loop-b
invariant-loop-b l = Merging l.marks l.depth l.blocks l.set l.b
