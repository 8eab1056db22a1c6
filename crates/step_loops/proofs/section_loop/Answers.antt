use Prim.Native.Nat.{◌+◌, ◌-◌}
use native.Mathlib.Omega.{arith}
use mathlib.Core.Bool.{true, false}
use mathlib.Core.Path.{◌≡◌, refl}
use Rattle.std.proofs.lemmas.Result.{err_from_is_err_and}
use Rattle.step_loops.proofs.SectionLaws.{lower-full, upper-full, split-in, inside-large, element-in, element-large, section-in, sectioned-done}
use Rattle.step_loops.proofs.section_loop.Goals as goal

pub returns-then-lower-ge-LIMITS : goal.returns-then-lower-ge-LIMITS
returns-then-lower-ge-LIMITS c =
    let deep : c.args.depth ≡ c.args.a + 1 + (c.args.depth - (c.args.a + 1)) = let p = c.requires.place in omega arith in
    let a = c.args in lower-full a.limits.now a.counts.now a.depth a.a a.w (a.depth - (a.a + 1)) c.requires deep (omega arith)

pub returns-then-upper-ge-LIMITS : goal.returns-then-upper-ge-LIMITS
returns-then-upper-ge-LIMITS c =
    let deep : c.args.depth ≡ c.args.a + 1 + (c.args.depth - (c.args.a + 1)) = let p = c.requires.place in omega arith in
    let a = c.args in upper-full a.limits.now a.counts.now a.depth a.a a.w (a.depth - (a.a + 1)) c.requires deep (omega arith)

pub change_loops-requires : goal.change_loops-requires
change_loops-requires c =
    let deep : c.args.depth ≡ c.args.a + 1 + (c.args.depth - (c.args.a + 1)) = let p = c.requires.place in omega arith in
    let a = c.args in split-in a.limits.now a.counts.now a.depth a.a a.w (a.depth - (a.a + 1)) c.requires deep

pub returns-in_err-change_loops : goal.returns-in_err-change_loops
returns-in_err-change_loops c =
    let deep : c.args.depth ≡ c.args.a + 1 + (c.args.depth - (c.args.a + 1)) = let p = c.requires.place in omega arith in
    let a = c.args in let l = c.if-lower-ge-LIMITS.false in let u = c.if-upper-ge-LIMITS.false in
    let p = err_from_is_err_and c.from_residual.result c.from_residual.ensures.1 in
    rw (p.1, p.2) (inside-large a.limits.now a.counts.now a.depth a.a a.w (a.depth - (a.a + 1)) c.requires deep (omega arith) (omega arith)
    false _ _ c.in_err-change_loops.ensures refl)

pub element_loop-requires : goal.element_loop-requires
element_loop-requires c =
    let deep : c.args.depth ≡ c.args.a + 1 + (c.args.depth - (c.args.a + 1)) = let p = c.requires.place in omega arith in
    let a = c.args in let l = c.if-lower-ge-LIMITS.false in let u = c.if-upper-ge-LIMITS.false in
    element-in a.limits.now a.counts.now a.depth a.a a.w (a.depth - (a.a + 1)) c.requires deep (omega arith) (omega arith)
    true _ _ c.in_ok-change_loops.ensures refl

pub returns-in_err-element_loop : goal.returns-in_err-element_loop
returns-in_err-element_loop c =
    let deep : c.args.depth ≡ c.args.a + 1 + (c.args.depth - (c.args.a + 1)) = let p = c.requires.place in omega arith in
    let a = c.args in let l = c.if-lower-ge-LIMITS.false in let u = c.if-upper-ge-LIMITS.false in
    let p = err_from_is_err_and c.from_residual-in_err-element_loop.result c.from_residual-in_err-element_loop.ensures.1 in
    rw (p.1, p.2) (element-large a.limits.now a.counts.now a.depth a.a a.w (a.depth - (a.a + 1)) c.requires deep (omega arith) (omega arith)
    true _ _ c.in_ok-change_loops.ensures refl false _ _ c.in_err-element_loop.ensures refl)

pub change_loop-requires : goal.change_loop-requires
change_loop-requires c =
    let deep : c.args.depth ≡ c.args.a + 1 + (c.args.depth - (c.args.a + 1)) = let p = c.requires.place in omega arith in
    let a = c.args in let l = c.if-lower-ge-LIMITS.false in let u = c.if-upper-ge-LIMITS.false in
    section-in a.limits.now a.counts.now a.depth a.a a.w (a.depth - (a.a + 1)) c.requires deep (omega arith) (omega arith)
    true _ _ c.in_ok-change_loops.ensures refl true _ _ c.in_ok-element_loop.ensures refl

pub returns-in_err-change_loop : goal.returns-in_err-change_loop
returns-in_err-change_loop c =
    let deep : c.args.depth ≡ c.args.a + 1 + (c.args.depth - (c.args.a + 1)) = let p = c.requires.place in omega arith in
    let a = c.args in let l = c.if-lower-ge-LIMITS.false in let u = c.if-upper-ge-LIMITS.false in
    let p = err_from_is_err_and c.from_residual-in_err-change_loop.result c.from_residual-in_err-change_loop.ensures.1 in
    rw (p.1, p.2) (sectioned-done a.limits.now a.counts.now a.depth a.a a.w (a.depth - (a.a + 1)) c.requires deep (omega arith) (omega arith)
    true _ _ c.in_ok-change_loops.ensures refl true _ _ c.in_ok-element_loop.ensures refl false _ _ c.in_err-change_loop.ensures)

pub returns : goal.returns
returns c =
    let deep : c.args.depth ≡ c.args.a + 1 + (c.args.depth - (c.args.a + 1)) = let p = c.requires.place in omega arith in
    let a = c.args in let l = c.if-lower-ge-LIMITS.false in let u = c.if-upper-ge-LIMITS.false in
    sectioned-done a.limits.now a.counts.now a.depth a.a a.w (a.depth - (a.a + 1)) c.requires deep (omega arith) (omega arith)
    true _ _ c.in_ok-change_loops.ensures refl true _ _ c.in_ok-element_loop.ensures refl true _ _ c.in_ok-change_loop.ensures
