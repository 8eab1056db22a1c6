use mathlib.Core.Path.{◌≡◌}
use lib.ListN.{length}
use borrow.Author.Rules.{rules}
use Rattle.step_points.proofs.StepsLaws.{step-in, none-moved, point-in, one-moved, all_moved}
use Rattle.step_points.proofs.point_after_steps.Goals as goal

pub loop-k-init : goal.loop-k-init
loop-k-init c = let l : length c.args.row ≡ 6 = search rules in none-moved c.requires.0 c.args.row l

pub step_at-step-requires : goal.step_at-step-requires
step_at-step-requires c = step-in c.requires.0 c.loop-k.k c.loop-k-test.true

pub point_after-next-requires : goal.point_after-next-requires
point_after-next-requires c = let p = c.requires in
    point-in p.0 c.loop-k.k c.loop-k-test.true _ c.step_at-step.ensures _ p.1 c.loop-k.point c.loop-k.loops c.loop-k.invariant

pub depth_after-loops-requires : goal.depth_after-loops-requires
depth_after-loops-requires c = c.loop-k.invariant.reached.shallow

pub loop-k-preserved : goal.loop-k-preserved
loop-k-preserved c =
    let p = c.requires in
    let a = c.point_after-next in
    one-moved p.0 c.loop-k.k c.loop-k-test.true _ c.step_at-step.ensures _ p.1 c.loop-k.point c.loop-k.loops
    c.loop-k.invariant a.result c.depth_after-loops.result c.depth_after-loops.ensures a.ensures

pub returns : goal.returns
returns c = let p = c.requires in
    all_moved p.0 _ p.1 c.loop-k.point c.loop-k.k c.loop-k.loops c.loop-k.invariant c.loop-k-test.false
