use mathlib.Core.Path.{refl}
use mathlib.Core.Bool.{true, false}
use Rattle.std.proofs.lemmas.Result.{err_from_is_err_and}
use native.Mathlib.Omega.{arith}
use borrow.Author.Rules.{rules}
use Rattle.step_exchange_sides.proofs.SideLaws.{side-start, side-room, held, limit-room, side-refused, side-passed, side-more, side-done}
use Rattle.step_exchange_sides.proofs.SideLaws.{side-not}
use Rattle.step_exchange_sides.proofs.put_filled_side.Goals as goal

pub loop-k-init : goal.loop-k-init
loop-k-init c = let b = side-start c.args.words.now c.args.j c.args.filling.now c.args.count c.args.n c.requires
    in (omega arith, b.0, b.1)

pub limit_of-x-requires : goal.limit_of-x-requires
limit_of-x-requires c = held c.args.words.now c.args.j c.args.filling.now c.args.count c.args.n
    c.requires c.loop-k.k c.loop-k-test.true

pub overflow_add-j : goal.overflow_add-j
overflow_add-j c = let p = c.requires in let f = p.fits in let g = p.few in search rules

pub put_limit-requires : goal.put_limit-requires
put_limit-requires c = let l = c.loop-k in
    limit-room c.args.words.now c.args.j c.args.filling.now c.args.count c.args.n c.requires l.k
    c.loop-k-test.true l.words l.invariant.2

pub returns-in_err-put_limit : goal.returns-in_err-put_limit
returns-in_err-put_limit c = let l = c.loop-k in
    let x = c.limit_of-x in
    let p = err_from_is_err_and c.from_residual.result c.from_residual.ensures.1 in
    rw p.1 (side-not c.args.words.now c.args.j c.args.filling.now c.args.count c.args.n c.requires _
    (side-refused c.args.words.now c.args.j c.args.filling.now c.args.count c.args.n c.requires l.k
    c.loop-k-test.true l.words l.invariant.2
    x.result (x.ensures c.args.n c.requires.shallow).is false _ c.in_err-put_limit.ensures refl))

pub loop-k-preserved : goal.loop-k-preserved
loop-k-preserved c = let l = c.loop-k in
    let x = c.limit_of-x in
    let w = c.in_ok-put_limit in
    let is = (x.ensures c.args.n c.requires.shallow).is in (
      omega arith,
      side-passed c.args.words.now c.args.j c.args.filling.now c.args.count c.args.n c.requires l.k
          c.loop-k-test.true l.words l.invariant.2 x.result is true _ w.ensures refl
          l.invariant.1,
      side-more c.args.words.now c.args.j c.args.filling.now c.args.count c.args.n c.requires l.k
          c.loop-k-test.true l.words l.invariant.2 x.result is true _ w.ensures refl,
    )

pub shape_of-words : goal.shape_of-words
shape_of-words c = let l = c.loop-k in side-room c.args.words.now c.args.j c.args.filling.now
    c.args.count c.args.n c.requires l.k l.words l.invariant.0 l.invariant.2

pub returns : goal.returns
returns c = let l = c.loop-k in
    side-done c.args.words.now c.args.j c.args.filling.now c.args.count c.args.n c.requires l.k l.words l.invariant.0
    c.loop-k-test.false l.invariant.1 l.invariant.2
