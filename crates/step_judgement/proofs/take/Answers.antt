use mathlib.Core.Path.{◌≡◌, refl, sym, ◌∙◌}
use Rattle.std.proofs.lemmas.Result.{err_from_is_err_and}
use Prim.Native.Nat.{◌<◌}
use native.Mathlib.Omega.{arith}
use lib.ListN.{length}
use Rattle.model.specs.Grammar.{depth_after}
use Rattle.model.specs.Judge.{stages}
use Rattle.step_kinds.specs.Kinds.{step_of, stage_of}
use Rattle.nest_flat.specs.FlatNests.{FlatNest}
use Rattle.nest_flat.proofs.FlatNestLaws.{words_count, accessed-count, extents-count}
use Rattle.step_judgement.specs.Judgement.{flat_nest_at, TakeIn}
use Rattle.step_judgement.proofs.StepLaws.{stage-taken}
use Rattle.step_judgement.proofs.StageLaws.{first-underway, stage-in, stage-stops, stage-passes, stages-pass}
use Rattle.step_judgement.proofs.take.Goals as goal

pub loop-j-init : goal.loop-j-init
loop-j-init c = (omega arith, first-underway (step_of c.args.step) c.args.number _ c.requires)

pub stage_at-stage-requires : goal.stage_at-stage-requires
stage_at-stage-requires c = let t = c.loop-j-test.true in let n = c.stage_count-j-end.ensures in omega (arith, t, n)

pub overflow_mul-accesses : goal.overflow_mul-accesses
overflow_mul-accesses c = let f = c.loop-j.invariant.1.flat-nest.few-accesses in omega arith

pub slice_bounds-take_stage-end : goal.slice_bounds-take_stage-end
slice_bounds-take_stage-end c = let i = c.loop-j.invariant.1.flat-nest in let f = i.few-accesses
    in let l = i.words-length in omega arith

pub slice_bounds-take_stage-end-in-loop-j : goal.slice_bounds-take_stage-end-in-loop-j
slice_bounds-take_stage-end-in-loop-j c =
    let Q : FlatNest = flat_nest_at c.args.header c.loop-j.loops c.loop-j.limits c.loop-j.counts c.loop-j.words in
    sym (words_count Q c.loop-j.invariant.1.flat-nest)

pub slice_bounds-accessed-end : goal.slice_bounds-accessed-end
slice_bounds-accessed-end c = let i = c.loop-j.invariant.1.flat-nest in let f = i.few-accesses
    in let l = i.accessed-length in omega arith

pub slice_bounds-take_stage-end-in-loop-j-2 : goal.slice_bounds-take_stage-end-in-loop-j-2
slice_bounds-take_stage-end-in-loop-j-2 c =
    let Q : FlatNest = flat_nest_at c.args.header c.loop-j.loops c.loop-j.limits c.loop-j.counts c.loop-j.words in
    sym (accessed-count Q c.loop-j.invariant.1.flat-nest)

pub overflow_mul-extents : goal.overflow_mul-extents
overflow_mul-extents c = let f = c.loop-j.invariant.1.flat-nest.few-arrays in omega arith

pub slice_bounds-extents-end : goal.slice_bounds-extents-end
slice_bounds-extents-end c = let i = c.loop-j.invariant.1.flat-nest in let f = i.few-arrays
    in let l = i.extents-length in omega arith

pub slice_bounds-take_stage-end-in-loop-j-3 : goal.slice_bounds-take_stage-end-in-loop-j-3
slice_bounds-take_stage-end-in-loop-j-3 c =
    let Q : FlatNest = flat_nest_at c.args.header c.loop-j.loops c.loop-j.limits c.loop-j.counts c.loop-j.words in
    sym (extents-count Q c.loop-j.invariant.1.flat-nest)

pub take_stage-requires : goal.take_stage-requires
take_stage-requires c =
    let P : FlatNest = flat_nest_at c.args.header c.args.depth c.args.limits.now c.args.counts.now c.args.words.now in
    let Q : FlatNest = flat_nest_at c.args.header c.loop-j.loops c.loop-j.limits c.loop-j.counts c.loop-j.words in
    let at = c.stage_at-stage in
    -- a stage that is left may be taken
    let next-in : c.loop-j.j < length (stages (step_of c.args.step)) → TakeIn Q (stage_of at.result) =
    λ h. stage-in (stages (step_of c.args.step)) (depth_after (step_of c.args.step) c.args.depth) c.args.number P
    c.loop-j.j Q c.loop-j.invariant.1 h (stage_of at.result) at.ensures in
    let t = c.loop-j-test.true in
    let n = c.stage_count-j-end.ensures in
    let i = next-in (omega (arith, t, n)) in
    record { loops = record { nest = i.flat-nest.nest; there = i.there }; accesses = i.flat-nest.accesses-ok }

pub returns-in_err-take_stage : goal.returns-in_err-take_stage
returns-in_err-take_stage c =
    let P : FlatNest = flat_nest_at c.args.header c.args.depth c.args.limits.now c.args.counts.now c.args.words.now in
    let Q : FlatNest = flat_nest_at c.args.header c.loop-j.loops c.loop-j.limits c.loop-j.counts c.loop-j.words in
    let at = c.stage_at-stage in
    -- a stage that is left may be taken
    let next-in : c.loop-j.j < length (stages (step_of c.args.step)) → TakeIn Q (stage_of at.result) =
    λ h. stage-in (stages (step_of c.args.step)) (depth_after (step_of c.args.step) c.args.depth) c.args.number P
    c.loop-j.j Q c.loop-j.invariant.1 h (stage_of at.result) at.ensures in
    let t = c.loop-j-test.true in
    let n = c.stage_count-j-end.ensures in
    let h : c.loop-j.j < length (stages (step_of c.args.step)) = omega (arith, t, n) in
    let p = err_from_is_err_and c.from_residual.result c.from_residual.ensures.1 in
    rw (p.1, p.2) (stage-stops (stages (step_of c.args.step)) (depth_after (step_of c.args.step) c.args.depth) c.args.number P c.loop-j.j Q
    c.loop-j.invariant.1 h (stage_of at.result) at.ensures _ _ _ _
    (stage-taken Q at.result (next-in h) c.args.number _ _ _ _ c.in_err-take_stage.ensures) _
    refl _ _ _)

pub depth_after_stage-loops-requires : goal.depth_after_stage-loops-requires
depth_after_stage-loops-requires c = c.loop-j.invariant.1.flat-nest.nest.shallow

pub loop-j-preserved : goal.loop-j-preserved
loop-j-preserved c =
    let P : FlatNest = flat_nest_at c.args.header c.args.depth c.args.limits.now c.args.counts.now c.args.words.now in
    let Q : FlatNest = flat_nest_at c.args.header c.loop-j.loops c.loop-j.limits c.loop-j.counts c.loop-j.words in
    let at = c.stage_at-stage in
    -- a stage that is left may be taken
    let next-in : c.loop-j.j < length (stages (step_of c.args.step)) → TakeIn Q (stage_of at.result) =
    λ h. stage-in (stages (step_of c.args.step)) (depth_after (step_of c.args.step) c.args.depth) c.args.number P
    c.loop-j.j Q c.loop-j.invariant.1 h (stage_of at.result) at.ensures in
    let t = c.loop-j-test.true in
    let n = c.stage_count-j-end.ensures in
    let h : c.loop-j.j < length (stages (step_of c.args.step)) = omega (arith, t, n) in (
      omega (arith, h),
      stage-passes (stages (step_of c.args.step)) (depth_after (step_of c.args.step) c.args.depth) c.args.number P c.loop-j.j Q
          c.loop-j.invariant.1 h (stage_of at.result) at.ensures _ _ _ _
          (stage-taken Q at.result (next-in h) c.args.number _ _ _ _ c.in_ok-take_stage.ensures)
          refl c.depth_after_stage-loops.result c.depth_after_stage-loops.ensures,
    )

pub shape_of-limits : goal.shape_of-limits
shape_of-limits c =
    let limits-kept : length c.loop-j.limits ≡ length c.args.limits.now = c.loop-j.invariant.1.flat-nest.nest.words ∙ sym c.requires.flat-nest.nest.words in
    limits-kept

pub shape_of-counts : goal.shape_of-counts
shape_of-counts c =
    let counts-kept : length c.loop-j.counts ≡ length c.args.counts.now = c.loop-j.invariant.1.flat-nest.nest.counts ∙ sym c.requires.flat-nest.nest.counts in
    counts-kept

pub shape_of-words : goal.shape_of-words
shape_of-words c =
    let words-kept : length c.loop-j.words ≡ length c.args.words.now = c.loop-j.invariant.1.flat-nest.words-length ∙ sym c.requires.flat-nest.words-length in
    words-kept

pub returns : goal.returns
returns c =
    let P : FlatNest = flat_nest_at c.args.header c.args.depth c.args.limits.now c.args.counts.now c.args.words.now in
    let t = c.loop-j-test.false in
    stages-pass (stages (step_of c.args.step)) (depth_after (step_of c.args.step) c.args.depth) c.args.number P c.loop-j.j
    c.stage_count-j-end.result c.loop-j.loops c.loop-j.limits c.loop-j.counts c.loop-j.words c.loop-j.invariant.1 c.loop-j.invariant.0
    c.stage_count-j-end.ensures (omega (arith, t))
