use Prim.Native.Nat.{◌-◌}
use Rattle.step_changes.proofs.MoveLaws.{Behind}
use Rattle.step_changes.proofs.change_loops.Given as goal

abbrev pub invariant-loop-k : goal.invariant-loop-k
invariant-loop-k l = Behind l.change l.initial.limits l.initial.counts l.start l.many l.by l.limits l.counts (l.k - l.start)
