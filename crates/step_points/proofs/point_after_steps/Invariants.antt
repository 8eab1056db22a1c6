-- `point_after_steps`: the first k steps are taken.
use lib.ListN.{take}
use Rattle.step_points.proofs.StepsLaws.{Moved}
use Rattle.step_points.proofs.point_after_steps.Given as goal

abbrev pub invariant-loop-k : goal.invariant-loop-k
invariant-loop-k l = Moved l.steps l.depth l.done (take l.depth l.initial.point) l.point l.k l.loops
