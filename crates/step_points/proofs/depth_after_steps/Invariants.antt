-- `depth_after_steps`: the first k steps are taken.
use Rattle.step_points.proofs.StepsLaws.{Reached}
use Rattle.step_points.proofs.depth_after_steps.Given as goal

abbrev pub invariant-loop-k : goal.invariant-loop-k
invariant-loop-k l = Reached l.steps l.depth l.done l.k l.level
