use Prim.Native.Nat.{◌+◌, ◌-◌}
use native.Mathlib.Omega.{arith}
use mathlib.Core.Bool.{true, false}
use mathlib.Core.Path.{◌≡◌, refl}
use Rattle.std.proofs.lemmas.Result.{err_from_is_err_and}
use Rattle.step_loops.proofs.ReversalLaws.{turn_in, reversed-large, flip-in, negate-in, reversed-done}
use Rattle.step_loops.proofs.reverse_loop.Goals as goal

pub change_loops-requires : goal.change_loops-requires
change_loops-requires c =
    let deep : c.args.depth ≡ c.args.a + 1 + (c.args.depth - (c.args.a + 1)) = let p = c.requires.place in omega arith in
    let a = c.args in turn_in a.limits.now a.counts.now a.depth a.a
    (a.depth - (a.a + 1)) c.requires deep

pub returns-in_err-change_loops : goal.returns-in_err-change_loops
returns-in_err-change_loops c =
    let deep : c.args.depth ≡ c.args.a + 1 + (c.args.depth - (c.args.a + 1)) = let p = c.requires.place in omega arith in
    let a = c.args in
    let p = err_from_is_err_and c.from_residual.result c.from_residual.ensures.1 in
    rw (p.1, p.2) (reversed-large a.limits.now a.counts.now a.depth a.a
    (a.depth - (a.a + 1)) c.requires deep false _ _ c.in_err-change_loops.ensures refl)

pub exchange_sides-requires : goal.exchange_sides-requires
exchange_sides-requires c =
    let deep : c.args.depth ≡ c.args.a + 1 + (c.args.depth - (c.args.a + 1)) = let p = c.requires.place in omega arith in
    let a = c.args in flip-in a.limits.now a.counts.now a.depth a.a
    (a.depth - (a.a + 1)) c.requires deep true _ _ c.in_ok-change_loops.ensures refl

pub change_loop-requires : goal.change_loop-requires
change_loop-requires c =
    let deep : c.args.depth ≡ c.args.a + 1 + (c.args.depth - (c.args.a + 1)) = let p = c.requires.place in omega arith in
    let a = c.args in negate-in a.limits.now a.counts.now a.depth a.a (a.depth - (a.a + 1)) c.requires deep true _ _
    c.in_ok-change_loops.ensures refl _ _
    c.exchange_sides.ensures

pub returns-in_err-change_loop : goal.returns-in_err-change_loop
returns-in_err-change_loop c =
    let deep : c.args.depth ≡ c.args.a + 1 + (c.args.depth - (c.args.a + 1)) = let p = c.requires.place in omega arith in
    let a = c.args in
    let p = err_from_is_err_and c.from_residual-in_err-change_loop.result c.from_residual-in_err-change_loop.ensures.1 in
    rw (p.1, p.2) (reversed-done a.limits.now a.counts.now a.depth a.a
    (a.depth - (a.a + 1)) c.requires deep true _ _ c.in_ok-change_loops.ensures refl _ _
    c.exchange_sides.ensures
    false _ _ c.in_err-change_loop.ensures)

pub returns : goal.returns
returns c =
    let deep : c.args.depth ≡ c.args.a + 1 + (c.args.depth - (c.args.a + 1)) = let p = c.requires.place in omega arith in
    let a = c.args in reversed-done a.limits.now a.counts.now a.depth a.a
    (a.depth - (a.a + 1)) c.requires deep true _ _ c.in_ok-change_loops.ensures refl _ _
    c.exchange_sides.ensures
    true _ _ c.in_ok-change_loop.ensures
