use mathlib.Core.Path.{refl}
use mathlib.Core.Bool.{true, false}
use lib.ListN.{length-set}
use native.Mathlib.Omega.{arith}
use Rattle.std.proofs.lemmas.Result.{err_from_is_err_and}
use Rattle.step_changes.proofs.LoopLaws.{lower_in, change-stops, upper_in, change-stops-later, change-ends}
use Rattle.step_changes.proofs.change_loop.Goals as goal

pub change_side-requires : goal.change_side-requires
change_side-requires c = let a = c.args in lower_in a.lo a.hi a.limits.now
    a.counts.now a.k a.to c.requires

pub returns-in_err-change_side : goal.returns-in_err-change_side
returns-in_err-change_side c = let a = c.args in
    let p = err_from_is_err_and c.from_residual.result c.from_residual.ensures.1 in
    rw p.1 (change-stops a.lo a.hi a.limits.now a.counts.now a.k a.to c.requires false _ c.in_err-change_side.ensures refl)

pub change_side-requires-2 : goal.change_side-requires-2
change_side-requires-2 c = let a = c.args in upper_in a.lo
    a.hi a.limits.now a.counts.now a.k a.to c.requires true _
    c.in_ok-change_side.ensures refl

pub returns-in_err-change_side-2 : goal.returns-in_err-change_side-2
returns-in_err-change_side-2 c = let a = c.args in
    let p = err_from_is_err_and c.from_residual-in_err-change_side-2.result c.from_residual-in_err-change_side-2.ensures.1 in
    rw p.1 (change-stops-later a.lo a.hi a.limits.now a.counts.now a.k a.to c.requires
    true _ c.in_ok-change_side.ensures refl
    false _ c.in_err-change_side-2.ensures refl)

pub bounds-counts-to-2 : goal.bounds-counts-to-2
bounds-counts-to-2 c = let p = c.requires.further in let n = c.requires.counts in simp length-set (omega arith)

pub returns : goal.returns
returns c = let a = c.args in change-ends
    a.lo a.hi a.limits.now a.counts.now a.k a.to c.requires true _ c.in_ok-change_side.ensures
    refl
    true _ c.in_ok-change_side-2.ensures
    refl
