use mathlib.Core.Bool.{true, false}
use mathlib.Core.Path.{refl}
use native.Mathlib.Omega.{arith}
use lib.ListN.{length-set}
use Rattle.std.proofs.lemmas.Result.{err_from_is_err_and}
use Rattle.step_loops.proofs.ElementLaws.{loop-stops, upper_in, loop-stops-later, loop-made}
use Rattle.step_loops.proofs.element_loop.Goals as goal

pub returns-in_err-element_side : goal.returns-in_err-element_side
returns-in_err-element_side c = let a = c.args in
    let p = err_from_is_err_and c.from_residual.result c.from_residual.ensures.1 in
    rw p.1 (loop-stops a.limits.now a.counts.now a.a a.w c.requires false _ c.in_err-element_side.ensures refl)

pub element_side-requires-2 : goal.element_side-requires-2
element_side-requires-2 c = let a = c.args in upper_in a.limits.now a.counts.now a.a a.w c.requires true _
    c.in_ok-element_side.ensures refl

pub returns-in_err-element_side-2 : goal.returns-in_err-element_side-2
returns-in_err-element_side-2 c = let a = c.args in
    let p = err_from_is_err_and c.from_residual-in_err-element_side-2.result c.from_residual-in_err-element_side-2.ensures.1 in
    rw p.1 (loop-stops-later
    a.limits.now a.counts.now a.a a.w c.requires true _ c.in_ok-element_side.ensures
    refl false _ c.in_err-element_side-2.ensures refl)

pub bounds-counts-b-2 : goal.bounds-counts-b-2
bounds-counts-b-2 c = let n = c.requires.counts
    in let d = c.requires.deep in simp length-set (omega arith)

pub returns : goal.returns
returns c = let a = c.args in loop-made
    a.limits.now a.counts.now a.a a.w c.requires true _ c.in_ok-element_side.ensures
    refl true _ c.in_ok-element_side-2.ensures refl
