-- `uses_of`: one statement after the other.
use Prim.Native.Nat.{◌-◌}
use Rattle.nest_flat.specs.FlatNests.{sizes_in, flat}
use Rattle.dependence_marks.proofs.UseLaws.{Entered}
use Rattle.dependence_marks.proofs.uses_of.Given as goal

abbrev pub invariant-loop-s : goal.invariant-loop-s
invariant-loop-s l = Entered (sizes_in (flat l.nest))
    l.initial.statements l.statements l.initial.writes l.writes l.first l.s
