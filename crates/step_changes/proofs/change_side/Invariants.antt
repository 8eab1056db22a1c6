use Rattle.step_changes.proofs.SideLaws.{Under}
use Rattle.step_changes.proofs.change_side.Given as goal

abbrev pub invariant-loop-i : goal.invariant-loop-i
invariant-loop-i l = Under l.change l.initial.words l.from l.n l.to l.m l.count l.words l.i
