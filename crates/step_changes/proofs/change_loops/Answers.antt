use mathlib.Core.Path.{◌≡◌, refl}
use mathlib.Core.Bool.{true, false}
use Prim.Native.Nat.{◌+◌, ◌-◌}
use native.Mathlib.Omega.{arith}
use Rattle.std.proofs.lemmas.Result.{err_from_is_err_and}
use Rattle.step_changes.proofs.MoveLaws.{loops-begin, next-in, loops-stop, loops-go-on, loops-end}
use Rattle.step_changes.proofs.change_loops.Goals as goal

pub loop-k-init : goal.loop-k-init
loop-k-init c = let a = c.args in
    let e : a.start + a.many - a.start ≡ a.many = omega arith in
    rw e (loops-begin a.change a.limits.now a.counts.now a.start a.many a.by c.requires)

pub change_loop-requires : goal.change_loop-requires
change_loop-requires c = let a = c.args in let l = c.loop-k in
    let e : l.k - 1 ≡ a.start + (l.k - 1 - a.start) = omega arith in
    rw e (next-in a.change a.limits.now a.counts.now a.start a.many a.by c.requires l.limits l.counts (l.k - a.start) (l.k - 1 - a.start)
    l.invariant (omega arith))

pub returns-in_err-change_loop : goal.returns-in_err-change_loop
returns-in_err-change_loop c = let a = c.args in let l = c.loop-k in
    let e : l.k - 1 ≡ a.start + (l.k - 1 - a.start) = omega arith in
    let p = err_from_is_err_and c.from_residual.result c.from_residual.ensures.1 in
    rw p.1 (loops-stop a.change a.limits.now a.counts.now
    a.start a.many a.by c.requires l.limits l.counts (l.k - a.start) (l.k - 1 - a.start) l.invariant (omega arith)
    false _ _ (rw e at c.in_err-change_loop.ensures) refl)

pub loop-k-preserved : goal.loop-k-preserved
loop-k-preserved c = let a = c.args in let l = c.loop-k in
    let e : l.k - 1 ≡ a.start + (l.k - 1 - a.start) = omega arith in
    loops-go-on a.change a.limits.now a.counts.now
    a.start a.many a.by c.requires l.limits l.counts (l.k - a.start) (l.k - 1 - a.start) l.invariant (omega arith)
    true _ _ (rw e at c.in_ok-change_loop.ensures) refl

pub returns : goal.returns
returns c = let a = c.args in let l = c.loop-k in loops-end a.change a.limits.now
    a.counts.now a.start a.many a.by c.requires l.limits l.counts (l.k - a.start) l.invariant (omega arith)
