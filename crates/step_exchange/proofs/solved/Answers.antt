use mathlib.Core.Path.{◌≡◌, ◌∙◌, ap}
use Prim.Native.Nat.{◌+◌, ◌≤◌}
use native.Mathlib.Omega.{arith}
use lib.IntN.{ℤ, pos, neg_ℤ}
use lib.Signed.{◌≤ℤ◌, ◌<ℤ◌}
use lib.ListN.{length, get_or}
use mir.Syntax.{w32}
use mir.Val.{to_z, of_z}
use borrow.Author.Rules.{rules}
use Rattle.integers.specs.Difference.{size}
use Rattle.integers.proofs.RangeLaws.{size-neg, sfits, test-lt, test-lt-no}
use Rattle.integers.proofs.RingLaws.{<ℤ-≤ℤ}
use Rattle.step_limits.proofs.NumberLaws.{small-back, cast_fits, read-multiplier, small-multiplier}
use Rattle.step_limits.proofs.RowLaws.{front_at, within-shorter}
use Rattle.step_limits.proofs.LimitLaws.{numbers}
use Rattle.step_exchange.proofs.SolveLaws.{negated-positive, solved-positive, solved-negative}
use Rattle.step_exchange.proofs.solved.Goals as goal

pub overflow_cast-p : goal.overflow_cast-p
overflow_cast-p c = let m = numbers (c.args.a + 1) c.args.l c.requires.1 in let h = m.multiplier in sfits (omega arith)

pub combine_rows-up-requires : goal.combine_rows-up-requires
combine_rows-up-requires c =
    let f = within-shorter 32767 c.args.a c.args.l.coefficients (numbers (c.args.a + 1) c.args.l c.requires.1).coefficients in
    (omega arith, omega arith, omega arith, f, f)

pub overflow_cast-result : goal.overflow_cast-result
overflow_cast-result c =
    let z : ℤ = get_or c.args.l.coefficients c.args.a (pos 0) in
    let at_c : size z ≤ 32767 = let n : length c.args.l.coefficients ≡ 6 = search rules in front_at (c.args.a + 1) c.args.l.coefficients c.args.a
    (omega arith) (numbers (c.args.a + 1) c.args.l c.requires.1).coefficients in
    let reads-c : to_z w32 (of_z w32 z) ≡ z = small-back _ at_c in
    let up : pos 0 <ℤ z = test-lt (rw reads-c at c.if-c-gt0.true) in
    rw reads-c (cast_fits z (<ℤ-≤ℤ up) at_c)

pub negate-requires : goal.negate-requires
negate-requires c = let m = numbers (c.args.a + 1) c.args.l c.requires.1 in rw
    (small-back c.args.l.constant m.constant) m.constant

pub negate-q-requires : goal.negate-q-requires
negate-q-requires c = let m = numbers (c.args.a + 1) c.args.l c.requires.1
    in small-multiplier c.args.l.multiplier m.multiplier

pub negate-requires-else-c-gt0 : goal.negate-requires-else-c-gt0
negate-requires-else-c-gt0 c =
    let z : ℤ = get_or c.args.l.coefficients c.args.a (pos 0) in
    let at_c : size z ≤ 32767 = let n : length c.args.l.coefficients ≡ 6 = search rules in front_at (c.args.a + 1) c.args.l.coefficients c.args.a
    (omega arith) (numbers (c.args.a + 1) c.args.l c.requires.1).coefficients in
    let reads-c : to_z w32 (of_z w32 z) ≡ z = small-back _ at_c in
    rw reads-c at_c

pub overflow_cast-result-else-c-gt0 : goal.overflow_cast-result-else-c-gt0
overflow_cast-result-else-c-gt0 c =
    let z : ℤ = get_or c.args.l.coefficients c.args.a (pos 0) in
    let at_c : size z ≤ 32767 = let n : length c.args.l.coefficients ≡ 6 = search rules in front_at (c.args.a + 1) c.args.l.coefficients c.args.a
    (omega arith) (numbers (c.args.a + 1) c.args.l c.requires.1).coefficients in
    let reads-c : to_z w32 (of_z w32 z) ≡ z = small-back _ at_c in
    let down : z ≤ℤ pos 0 = test-lt-no (rw reads-c at c.if-c-gt0.false) in
    let neg-z : c.negate-else-c-gt0.result ≡ neg_ℤ z = c.negate-else-c-gt0.ensures ∙ ap neg_ℤ reads-c in
    let e : to_z w32 (of_z w32 c.negate-else-c-gt0.result) ≡ c.negate-else-c-gt0.result = search rules in
    let f = neg-z in
    rw (e, f) (cast_fits (neg_ℤ z) (negated-positive z down) (let q = size-neg z in let h = at_c in omega arith))

pub returns-then-c-gt0 : goal.returns-then-c-gt0
returns-then-c-gt0 c =
    let z : ℤ = get_or c.args.l.coefficients c.args.a (pos 0) in
    let at_c : size z ≤ 32767 = let n : length c.args.l.coefficients ≡ 6 = search rules in front_at (c.args.a + 1) c.args.l.coefficients c.args.a
    (omega arith) (numbers (c.args.a + 1) c.args.l c.requires.1).coefficients in
    let reads-c : to_z w32 (of_z w32 z) ≡ z = small-back _ at_c in
    let up : pos 0 <ℤ z = test-lt (rw reads-c at c.if-c-gt0.true) in
    let m = numbers (c.args.a + 1) c.args.l c.requires.1 in
    let e : to_z w32 (of_z w32 c.negate.result) ≡ c.negate.result = search rules in
    rw reads-c (solved-positive c.args.a c.args.l _ c.combine_rows-up.result _ c.requires.0 up
    (e ∙ c.negate.ensures ∙ ap neg_ℤ (small-back c.args.l.constant m.constant)) c.combine_rows-up.ensures
    (read-multiplier c.args.l.multiplier m.multiplier))

pub returns-else-c-gt0 : goal.returns-else-c-gt0
returns-else-c-gt0 c =
    let z : ℤ = get_or c.args.l.coefficients c.args.a (pos 0) in
    let at_c : size z ≤ 32767 = let n : length c.args.l.coefficients ≡ 6 = search rules in front_at (c.args.a + 1) c.args.l.coefficients c.args.a
    (omega arith) (numbers (c.args.a + 1) c.args.l c.requires.1).coefficients in
    let reads-c : to_z w32 (of_z w32 z) ≡ z = small-back _ at_c in
    let down : z ≤ℤ pos 0 = test-lt-no (rw reads-c at c.if-c-gt0.false) in
    let neg-z : c.negate-else-c-gt0.result ≡ neg_ℤ z = c.negate-else-c-gt0.ensures ∙ ap neg_ℤ reads-c in
    let m = numbers (c.args.a + 1) c.args.l c.requires.1 in
    let n : length c.args.l.coefficients ≡ 6 = search rules in
    let e : to_z w32 (of_z w32 c.negate-q.result) ≡ c.negate-q.result = search rules in
    let g : to_z w32 (of_z w32 c.negate-else-c-gt0.result) ≡ c.negate-else-c-gt0.result = search rules in
    solved-negative c.args.a c.args.l _ _ _ n c.requires.0 down c.requires.2
    (small-back c.args.l.constant m.constant)
    (e ∙ c.negate-q.ensures ∙ ap neg_ℤ (read-multiplier c.args.l.multiplier m.multiplier)) (g ∙ neg-z)
