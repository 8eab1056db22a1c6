use mathlib.Core.Path.{refl}
use mathlib.Core.Bool.{true, false}
use native.Mathlib.Omega.{arith}
use Rattle.std.proofs.lemmas.Result.{err_from_is_err_and}
use Rattle.step_changes.proofs.SideLaws.{side-begins, next-there, next-room, next_small, side-stops, side-goes-on, side-ends}
use Rattle.step_changes.proofs.change_side.Goals as goal

pub loop-i-init : goal.loop-i-init
loop-i-init c = let a = c.args in side-begins a.change a.words.now a.from a.n a.to a.m a.count c.requires

pub overflow_add-from : goal.overflow_add-from
overflow_add-from c = let p = c.requires.reads in let l = c.loop-i.invariant.room in omega arith

pub limit_at-l-requires : goal.limit_at-l-requires
limit_at-l-requires c = let a = c.args in let l = c.loop-i in next-there a.change
    a.words.now a.from a.n a.to a.m a.count c.requires l.words l.i l.invariant c.loop-i-test.true

pub change_limit-x-requires : goal.change_limit-x-requires
change_limit-x-requires c = let a = c.args in let l = c.loop-i in (
  c.requires.allowed,
  next_small a.change a.words.now a.from a.n a.to a.m a.count c.requires l.words l.i l.invariant
      c.loop-i-test.true c.limit_at-l.result c.limit_at-l.ensures,
)

pub overflow_add-to : goal.overflow_add-to
overflow_add-to c = let p = c.requires.writes
    in let l = c.loop-i.invariant.room in omega arith

pub put_limit-requires : goal.put_limit-requires
put_limit-requires c = let a = c.args
    in let l = c.loop-i in next-room a.change a.words.now a.from a.n a.to a.m a.count
    c.requires l.words l.i l.invariant c.loop-i-test.true

pub returns-in_err-put_limit : goal.returns-in_err-put_limit
returns-in_err-put_limit c = let a = c.args
    in let l = c.loop-i in
    let p = err_from_is_err_and c.from_residual.result c.from_residual.ensures.1 in
    rw p.1 (side-stops a.change a.words.now a.from a.n a.to a.m a.count c.requires l.words l.i l.invariant
    c.loop-i-test.true c.limit_at-l.result
    c.limit_at-l.ensures c.change_limit-x.result
    c.change_limit-x.ensures false _ c.in_err-put_limit.ensures refl)

pub loop-i-preserved : goal.loop-i-preserved
loop-i-preserved c = let a = c.args
    in let l = c.loop-i in
    side-goes-on a.change a.words.now a.from a.n a.to a.m a.count c.requires l.words l.i l.invariant
    c.loop-i-test.true c.limit_at-l.result
    c.limit_at-l.ensures c.change_limit-x.result
    c.change_limit-x.ensures true _ c.in_ok-put_limit.ensures refl

pub returns : goal.returns
returns c = let a = c.args in let l = c.loop-i in side-ends a.change a.words.now a.from a.n
    a.to a.m a.count c.requires l.words l.i l.invariant (omega arith)
