-- `move_points`: the first j points are written.
use Rattle.step_points.proofs.MoveLaws.{Written}
use Rattle.step_points.proofs.move_points.Given as goal

abbrev pub invariant-loop-j : goal.invariant-loop-j
invariant-loop-j l = Written l.points l.depth l.count l.steps l.done l.initial.out l.loops l.out l.j
