use mathlib.Core.Path.{refl}
use mathlib.Core.Bool.{true, false}
use Rattle.std.proofs.lemmas.Result.{err_from_is_err_and}
use native.Mathlib.Omega.{arith}
use Rattle.step_kinds.specs.Kinds.{stage_of}
use Rattle.step_subscripts.proofs.ChangeLaws.{changed-none, next-in, next-fails, next-passes, all_pass}
use Rattle.step_subscripts.proofs.change_subscripts.Goals as goal

pub loop-d-init : goal.loop-d-init
loop-d-init c = (omega arith, changed-none (stage_of c.args.stage) c.args.n c.args.words.now c.args.first c.requires.small)

pub overflow_add-first : goal.overflow_add-first
overflow_add-first c = let i = c.requires.inside in omega arith

pub change_subscript-requires : goal.change_subscript-requires
change_subscript-requires c =
    let l = c.loop-d in
    next-in c.args.words.now c.args.first c.args.count c.args.n c.args.m c.args.stage c.requires l.words l.d l.invariant.1
    c.loop-d-test.true

pub returns-in_err-change_subscript : goal.returns-in_err-change_subscript
returns-in_err-change_subscript c =
    let l = c.loop-d in
    let p = err_from_is_err_and c.from_residual.result c.from_residual.ensures.1 in
    rw p.1 (next-fails c.args.words.now c.args.first c.args.count c.args.n c.args.m c.args.stage c.requires l.words l.d
    l.invariant.1 c.loop-d-test.true _ false c.in_err-change_subscript.ensures refl)

pub loop-d-preserved : goal.loop-d-preserved
loop-d-preserved c =
    let l = c.loop-d in (
      omega arith,
      next-passes c.args.words.now c.args.first c.args.count c.args.n c.args.m c.args.stage c.requires l.words
          l.d l.invariant.1 c.loop-d-test.true _ true c.in_ok-change_subscript.ensures refl,
    )

pub shape_of-words : goal.shape_of-words
shape_of-words c = c.loop-d.invariant.1.room

pub returns : goal.returns
returns c =
    let l = c.loop-d in
    all_pass c.args.words.now c.args.first c.args.count c.args.n c.args.m c.args.stage c.requires l.words l.d
    l.invariant.1 l.invariant.0 c.loop-d-test.false
