use mathlib.Core.Bool.{true, false}
use mathlib.Core.Path.{refl}
use native.Mathlib.Omega.{arith}
use mir.Syntax.{w32}
use mir.Facts.{to_z_pos}
use Rattle.std.proofs.lemmas.Result.{err_from_is_err_and}
use Rattle.step_loops.proofs.ElementLaws.{element-stops, element-in, element-ends}
use Rattle.step_loops.proofs.element_side.Goals as goal

pub returns-in_err-put_limit : goal.returns-in_err-put_limit
returns-in_err-put_limit c = let a = c.args in let x = c.constant_limit-first in let n = c.requires.narrow.1 in
    let p = err_from_is_err_and c.from_residual.result c.from_residual.ensures.1 in
    rw p.1 (element-stops a.limits.now a.from a.n a.to a.count a.w a.v c.requires _ (x.ensures.is a.n a.v c.requires.shallow (to_z_pos w32 (omega arith))) false
    _ c.in_err-put_limit.ensures refl)

pub change_side-requires : goal.change_side-requires
change_side-requires c = let a = c.args in let x = c.constant_limit-first in let n = c.requires.narrow.1 in
    element-in a.limits.now a.from a.n a.to a.count a.w a.v c.requires _ (x.ensures.is a.n a.v c.requires.shallow (to_z_pos w32 (omega arith))) true _
    c.in_ok-put_limit.ensures refl

pub returns : goal.returns
returns c = let a = c.args in let x = c.constant_limit-first in let n = c.requires.narrow.1 in
    element-ends a.limits.now a.from a.n a.to a.count a.w a.v c.requires _ (x.ensures.is a.n a.v c.requires.shallow (to_z_pos w32 (omega arith))) true
    _ c.in_ok-put_limit.ensures refl _ _
    c.change_side.ensures
