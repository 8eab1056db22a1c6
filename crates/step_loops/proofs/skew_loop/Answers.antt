use mathlib.Core.List.{List}
use Prim.Native.Nat.{ℕ, ◌+◌, ◌-◌}
use native.Mathlib.Omega.{arith}
use mathlib.Core.Path.{◌≡◌, refl, subst}
use mathlib.Core.Bool.{true, false}
use Rattle.std.proofs.lemmas.Result.{err_from_is_err_and}
use Rattle.std.specs.Prelude.{Result, ⊤}
use lib.IntN.{ℤ}
use mir.Syntax.{w32}
use mir.Val.{to_z, of_z}
use mir.Facts.{to_z-of_z}
use Rattle.model.specs.Ticket.{skew}
use Rattle.step_loops.specs.After.{SkewIn, After}
use Rattle.step_exchange.specs.declared.StepError.{StepError}
use Rattle.step_loops.proofs.ReversalLaws.{skew-in, skewed-large, own-skew-in, skewed-done}
use Rattle.step_loops.proofs.skew_loop.Goals as goal

after : {s : List ℤ} {n : List ℕ} {depth a d : ℕ} {z factor : ℤ} {r : Result ⊤ StepError} {t : List ℤ} {c : List ℕ} → z ≡ factor
    → After (skew a d z) s n depth r t c → After (skew a d factor) s n depth r t c
after {s = s} {n = n} {depth = depth} {a = a} {d = d} {r = r} {t = t} {c = c} e h = subst (λ (x : ℤ). After (skew a d x) s n depth r t c) e h

pub change_loops-requires : goal.change_loops-requires
change_loops-requires c =
    let deep : c.args.depth ≡ c.args.a + 1 + c.args.d + 1 + (c.args.depth - (c.args.a + 1 + c.args.d + 1)) = let p = c.requires.place in omega arith in
    let stored : ℤ = to_z w32 (of_z w32 c.args.factor) in
    let asked : SkewIn c.args.limits.now c.args.counts.now c.args.depth c.args.a c.args.d stored = rw (to_z-of_z c.ranges.factor) c.requires in
    let a = c.args in skew-in a.limits.now a.counts.now a.depth a.a
    a.d stored (a.depth - (a.a + 1 + a.d + 1)) asked deep

pub returns-in_err-change_loops : goal.returns-in_err-change_loops
returns-in_err-change_loops c =
    let deep : c.args.depth ≡ c.args.a + 1 + c.args.d + 1 + (c.args.depth - (c.args.a + 1 + c.args.d + 1)) = let p = c.requires.place in omega arith in
    let stored : ℤ = to_z w32 (of_z w32 c.args.factor) in
    let asked : SkewIn c.args.limits.now c.args.counts.now c.args.depth c.args.a c.args.d stored = rw (to_z-of_z c.ranges.factor) c.requires in
    let a = c.args
    in let p = err_from_is_err_and c.from_residual.result c.from_residual.ensures.1 in
    rw (p.1, p.2) (after (to_z-of_z c.ranges.factor) (skewed-large a.limits.now a.counts.now a.depth a.a
    a.d stored (a.depth - (a.a + 1 + a.d + 1)) asked deep false _ _ c.in_err-change_loops.ensures refl))

pub change_loop-requires : goal.change_loop-requires
change_loop-requires c =
    let deep : c.args.depth ≡ c.args.a + 1 + c.args.d + 1 + (c.args.depth - (c.args.a + 1 + c.args.d + 1)) = let p = c.requires.place in omega arith in
    let stored : ℤ = to_z w32 (of_z w32 c.args.factor) in
    let asked : SkewIn c.args.limits.now c.args.counts.now c.args.depth c.args.a c.args.d stored = rw (to_z-of_z c.ranges.factor) c.requires in
    let a = c.args
    in own-skew-in a.limits.now a.counts.now a.depth a.a
    a.d stored (a.depth - (a.a + 1 + a.d + 1)) asked deep true _ _ c.in_ok-change_loops.ensures
    refl

pub returns-in_err-change_loop : goal.returns-in_err-change_loop
returns-in_err-change_loop c =
    let deep : c.args.depth ≡ c.args.a + 1 + c.args.d + 1 + (c.args.depth - (c.args.a + 1 + c.args.d + 1)) = let p = c.requires.place in omega arith in
    let stored : ℤ = to_z w32 (of_z w32 c.args.factor) in
    let asked : SkewIn c.args.limits.now c.args.counts.now c.args.depth c.args.a c.args.d stored = rw (to_z-of_z c.ranges.factor) c.requires in
    let a = c.args in
    let p = err_from_is_err_and c.from_residual-in_err-change_loop.result c.from_residual-in_err-change_loop.ensures.1 in
    rw (p.1, p.2) (after (to_z-of_z c.ranges.factor)
    (skewed-done a.limits.now a.counts.now a.depth a.a a.d stored (a.depth - (a.a + 1 + a.d + 1)) asked deep
    true _ _ c.in_ok-change_loops.ensures refl
    false _ _ c.in_err-change_loop.ensures))

pub returns : goal.returns
returns c =
    let deep : c.args.depth ≡ c.args.a + 1 + c.args.d + 1 + (c.args.depth - (c.args.a + 1 + c.args.d + 1)) = let p = c.requires.place in omega arith in
    let stored : ℤ = to_z w32 (of_z w32 c.args.factor) in
    let asked : SkewIn c.args.limits.now c.args.counts.now c.args.depth c.args.a c.args.d stored = rw (to_z-of_z c.ranges.factor) c.requires in
    let a = c.args in after (to_z-of_z c.ranges.factor)
    (skewed-done a.limits.now a.counts.now a.depth a.a a.d stored (a.depth - (a.a + 1 + a.d + 1)) asked deep
    true _ _ c.in_ok-change_loops.ensures refl
    true _ _ c.in_ok-change_loop.ensures)
