use Prim.Native.Nat.{◌+◌, ◌-◌}
use native.Mathlib.Omega.{arith}
use mathlib.Core.Bool.{true, false}
use mathlib.Core.Path.{◌≡◌}
use Rattle.std.proofs.lemmas.Result.{err_from_is_err_and}
use Rattle.step_loops.proofs.ExchangeLaws.{pair-in, pair-refused, swap-in, exchanged-done}
use Rattle.step_loops.proofs.exchange_loops.Goals as goal

pub exchange_pair-requires : goal.exchange_pair-requires
exchange_pair-requires c =
    let deep : c.args.depth ≡ c.args.a + 1 + 1 + (c.args.depth - (c.args.a + 1 + 1)) = let p = c.requires.place in omega arith in
    let a = c.args in pair-in a.limits.now a.counts.now a.depth a.a (a.depth - (a.a + 1 + 1)) c.requires deep

pub returns-in_err-exchange_pair : goal.returns-in_err-exchange_pair
returns-in_err-exchange_pair c =
    let deep : c.args.depth ≡ c.args.a + 1 + 1 + (c.args.depth - (c.args.a + 1 + 1)) = let p = c.requires.place in omega arith in
    let a = c.args in
    let p = err_from_is_err_and c.from_residual.result c.from_residual.ensures.1 in
    rw (p.1, p.2) (pair-refused a.limits.now a.counts.now a.depth a.a (a.depth - (a.a + 1 + 1)) c.requires deep _ _ _ c.in_err-exchange_pair.ensures)

pub change_loops-requires : goal.change_loops-requires
change_loops-requires c =
    let deep : c.args.depth ≡ c.args.a + 1 + 1 + (c.args.depth - (c.args.a + 1 + 1)) = let p = c.requires.place in omega arith in
    let a = c.args in swap-in a.limits.now a.counts.now a.depth a.a (a.depth - (a.a + 1 + 1)) c.requires deep _ _ c.in_ok-exchange_pair.ensures

pub returns-in_err-change_loops : goal.returns-in_err-change_loops
returns-in_err-change_loops c =
    let deep : c.args.depth ≡ c.args.a + 1 + 1 + (c.args.depth - (c.args.a + 1 + 1)) = let p = c.requires.place in omega arith in
    let a = c.args in
    let p = err_from_is_err_and c.from_residual-in_err-change_loops.result c.from_residual-in_err-change_loops.ensures.1 in
    rw (p.1, p.2) (exchanged-done a.limits.now a.counts.now a.depth a.a (a.depth - (a.a + 1 + 1)) c.requires deep _ _ c.in_ok-exchange_pair.ensures
    false _ _ c.in_err-change_loops.ensures)

pub returns : goal.returns
returns c =
    let deep : c.args.depth ≡ c.args.a + 1 + 1 + (c.args.depth - (c.args.a + 1 + 1)) = let p = c.requires.place in omega arith in
    let a = c.args in exchanged-done a.limits.now a.counts.now a.depth a.a (a.depth - (a.a + 1 + 1)) c.requires deep _ _ c.in_ok-exchange_pair.ensures
    true _ _ c.in_ok-change_loops.ensures
