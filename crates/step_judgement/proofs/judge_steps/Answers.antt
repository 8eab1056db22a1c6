use mathlib.Core.Path.{◌≡◌, refl, sym, ◌∙◌}
use Rattle.std.proofs.lemmas.Result.{err_from_is_err_and}
use native.Mathlib.Omega.{arith}
use lib.ListN.{length}
use Rattle.nest_flat.specs.FlatNests.{FlatNest, flat_nest}
use Rattle.step_judgement.specs.Judgement.{flat_nest_at}
use Rattle.step_judgement.proofs.StepLaws.{direction-in}
use Rattle.step_judgement.proofs.LoopLaws.{none-judged, step-there, stops-back, stops, one_more, steps-stop, steps-pass}
use Rattle.step_judgement.proofs.judge_steps.Goals as goal

pub loop-k-init : goal.loop-k-init
loop-k-init c = none-judged _ c.args.steps c.args.set c.requires

pub offset_bounds-all-k : goal.offset_bounds-all-k
offset_bounds-all-k c = let t = c.loop-k-test.true in let f = c.requires.steps.few in omega arith

pub bounds-all-k : goal.bounds-all-k
bounds-all-k c = let t = c.loop-k-test.true in let f = c.requires.steps.few in omega arith

pub directions_after-after-requires : goal.directions_after-after-requires
directions_after-after-requires c =
    let P : FlatNest = flat_nest c.args.header c.args.limits.now c.args.words.now in
    let Q : FlatNest = flat_nest_at c.args.header c.loop-k.depth c.loop-k.limits c.loop-k.counts c.loop-k.words in
    let i = c.loop-k.invariant in
    direction-in Q i.flat-nest c.loop-k.vectors i.level _ (step-there c.args.steps c.requires.steps P c.args.set Q
    c.loop-k.vectors c.loop-k.k i _ c.loop-k-test.true)

pub points_back-requires : goal.points_back-requires
points_back-requires c = c.directions_after-after.ensures.1

pub returns-then-points_back : goal.returns-then-points_back
returns-then-points_back c =
    let P : FlatNest = flat_nest c.args.header c.args.limits.now c.args.words.now in
    let Q : FlatNest = flat_nest_at c.args.header c.loop-k.depth c.loop-k.limits c.loop-k.counts c.loop-k.words in
    let d = c.directions_after-after in let b = c.points_back in
    steps-stop P c.args.steps c.args.set c.requires _ _ _
    (stops-back c.args.steps c.requires.steps P c.args.set Q c.loop-k.vectors c.loop-k.k c.loop-k.invariant _
    c.loop-k-test.true d.result d.ensures.0 b.result b.ensures c.if-points_back.true)

pub slice_bounds-take-end : goal.slice_bounds-take-end
slice_bounds-take-end c = sym c.loop-k.invariant.flat-nest.nest.counts

pub take-requires : goal.take-requires
take-requires c =
    let P : FlatNest = flat_nest c.args.header c.args.limits.now c.args.words.now in
    let Q : FlatNest = flat_nest_at c.args.header c.loop-k.depth c.loop-k.limits c.loop-k.counts c.loop-k.words in
    let i = c.loop-k.invariant in
    record {
      flat-nest = i.flat-nest;
      there = step-there c.args.steps c.requires.steps P c.args.set Q c.loop-k.vectors
          c.loop-k.k i _ c.loop-k-test.true;
    }

pub returns-in_err-take : goal.returns-in_err-take
returns-in_err-take c =
    let P : FlatNest = flat_nest c.args.header c.args.limits.now c.args.words.now in
    let Q : FlatNest = flat_nest_at c.args.header c.loop-k.depth c.loop-k.limits c.loop-k.counts c.loop-k.words in
    let d = c.directions_after-after in let b = c.points_back in
    let p = err_from_is_err_and c.from_residual.result c.from_residual.ensures.1 in
    rw (p.1, p.2) (steps-stop P c.args.steps c.args.set c.requires _ _ _
    (stops c.args.steps c.requires.steps P c.args.set Q c.loop-k.vectors c.loop-k.k c.loop-k.invariant _
    c.loop-k-test.true d.result d.ensures.0 b.result b.ensures c.if-points_back.false
    _ _ _ _ c.in_err-take.ensures _ refl))

pub depth_after-depth-requires : goal.depth_after-depth-requires
depth_after-depth-requires c = c.loop-k.invariant.flat-nest.nest.shallow

pub loop-k-preserved : goal.loop-k-preserved
loop-k-preserved c =
    let P : FlatNest = flat_nest c.args.header c.args.limits.now c.args.words.now in
    let Q : FlatNest = flat_nest_at c.args.header c.loop-k.depth c.loop-k.limits c.loop-k.counts c.loop-k.words in
    let d = c.directions_after-after in let b = c.points_back in
    one_more c.args.steps c.requires.steps P c.args.set Q c.loop-k.vectors c.loop-k.k c.loop-k.invariant _
    c.loop-k-test.true
    d.result d.ensures.0 b.result b.ensures c.if-points_back.false
    _ _ _ _ c.in_ok-take.ensures refl c.depth_after-depth.result c.depth_after-depth.ensures

pub shape_of-limits : goal.shape_of-limits
shape_of-limits c =
    let limits-kept : length c.loop-k.limits ≡ length c.args.limits.now = c.loop-k.invariant.flat-nest.nest.words ∙ sym c.requires.flat-nest.nest.words in
    limits-kept

pub shape_of-words : goal.shape_of-words
shape_of-words c =
    let words-kept : length c.loop-k.words ≡ length c.args.words.now = c.loop-k.invariant.flat-nest.words-length ∙ sym c.requires.flat-nest.words-length in
    words-kept

pub returns : goal.returns
returns c =
    let P : FlatNest = flat_nest c.args.header c.args.limits.now c.args.words.now in
    steps-pass P c.args.steps c.args.set
    c.requires _ c.loop-k.limits c.loop-k.words c.loop-k.vectors c.loop-k.k c.loop-k.invariant
    c.loop-k-test.false
