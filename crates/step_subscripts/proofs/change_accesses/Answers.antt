use mathlib.Core.Path.{refl}
use mathlib.Core.Bool.{true, false}
use Rattle.std.proofs.lemmas.Result.{err_from_is_err_and}
use native.Mathlib.Omega.{arith}
use Rattle.step_subscripts.proofs.AccessLaws.{passed_none, width-inside, next-in, next-fails, next-passes, passed-all}
use Rattle.step_subscripts.proofs.change_accesses.Goals as goal

pub depth_after_stage-m-requires : goal.depth_after_stage-m-requires
depth_after_stage-m-requires c = c.requires.step.few

pub loop-k-init : goal.loop-k-init
loop-k-init c = passed_none c.args.words.now c.args.accessed.now c.args.extents.now
    c.args.depth c.args.stage c.requires

pub overflow_mul-count : goal.overflow_mul-count
overflow_mul-count c =
    let e = width-inside c.args.words.now c.args.accessed.now c.args.extents.now c.args.depth c.args.stage c.requires
    c.loop-k.k c.loop-k-test.true in
    let f = c.requires.held.few in
    omega arith

pub offset_bounds-extents-array : goal.offset_bounds-extents-array
offset_bounds-extents-array c =
    let e = width-inside c.args.words.now c.args.accessed.now c.args.extents.now c.args.depth c.args.stage c.requires
    c.loop-k.k c.loop-k-test.true in
    let f = c.requires.held.few in
    omega arith

pub bounds-extents-array : goal.bounds-extents-array
bounds-extents-array c =
    let e = width-inside c.args.words.now c.args.accessed.now c.args.extents.now c.args.depth c.args.stage c.requires
    c.loop-k.k c.loop-k-test.true in
    omega arith

pub overflow_mul-k : goal.overflow_mul-k
overflow_mul-k c =
    let m = c.requires.held.many in
    let h = c.loop-k-test.true in
    omega arith

pub change_subscripts-requires : goal.change_subscripts-requires
change_subscripts-requires c =
    let l = c.loop-k in
    next-in c.args.words.now c.args.accessed.now c.args.extents.now c.args.depth c.args.stage c.requires l.words l.k
    l.invariant c.loop-k-test.true c.depth_after_stage-m.result c.depth_after_stage-m.ensures

pub returns-in_err-change_subscripts : goal.returns-in_err-change_subscripts
returns-in_err-change_subscripts c =
    let l = c.loop-k in
    let p = err_from_is_err_and c.from_residual.result c.from_residual.ensures.1 in
    rw p.1 (next-fails c.args.words.now c.args.accessed.now c.args.extents.now c.args.depth c.args.stage c.requires l.words l.k
    l.invariant c.loop-k-test.true _ false c.in_err-change_subscripts.ensures
    refl)

pub loop-k-preserved : goal.loop-k-preserved
loop-k-preserved c =
    let l = c.loop-k in
    next-passes c.args.words.now c.args.accessed.now c.args.extents.now c.args.depth c.args.stage c.requires l.words l.k
    l.invariant c.loop-k-test.true _ true c.in_ok-change_subscripts.ensures
    refl

pub shape_of-words : goal.shape_of-words
shape_of-words c = c.loop-k.invariant.room

pub returns : goal.returns
returns c =
    let l = c.loop-k in
    passed-all c.args.words.now c.args.accessed.now c.args.extents.now c.args.depth c.args.stage c.requires l.words l.k
    l.invariant c.loop-k-test.false
