use Rattle.step_points.proofs.StepsLaws.{step-in, none-reached, one-reached, all-reached}
use Rattle.step_points.proofs.depth_after_steps.Goals as goal

pub loop-k-init : goal.loop-k-init
loop-k-init c = none-reached c.requires

pub step_at-step-requires : goal.step_at-step-requires
step_at-step-requires c = step-in c.requires c.loop-k.k c.loop-k-test.true

pub depth_after-level-requires : goal.depth_after-level-requires
depth_after-level-requires c = c.loop-k.invariant.shallow

pub loop-k-preserved : goal.loop-k-preserved
loop-k-preserved c = let t = c.step_at-step in
    one-reached c.requires c.loop-k.k c.loop-k-test.true _ t.ensures c.loop-k.level c.loop-k.invariant
    c.depth_after-level.result c.depth_after-level.ensures

pub returns : goal.returns
returns c = all-reached c.requires c.loop-k.k c.loop-k.level c.loop-k.invariant c.loop-k-test.false
