use mathlib.Core.Path.{◌≡◌, sym, ◌∙◌, ap}
use mathlib.Core.List.{map}
use Prim.Native.Nat.{◌+◌, ◌≤◌}
use native.Mathlib.Omega.{arith}
use lib.IntN.{ℤ, pos}
use lib.ListN.{length, get_or}
use mir.Syntax.{w32}
use mir.Val.{to_z, of_z}
use Rattle.integers.specs.Difference.{size}
use Rattle.integers.proofs.RangeLaws.{test-lt, test-lt-no}
use Rattle.model.specs.Limits.{combined}
use Rattle.ticket_loops.specs.LoopReads.{limit_of}
use Rattle.step_limits.proofs.NumberLaws.{small-back}
use Rattle.step_limits.proofs.RowLaws.{front_at}
use Rattle.step_limits.proofs.LimitLaws.{numbers}
use Rattle.step_exchange_sides.proofs.FillLaws.{adds_same}
use Rattle.step_exchange.specs.Pair.{limits_of}
use Rattle.step_exchange.proofs.SpanLaws.{wide-small}
use Rattle.step_exchange.proofs.SolveLaws.{zero_bits, zero_test, part-zero, part-positive, part-negative}
use borrow.Author.Rules.{rules}
use Rattle.step_exchange.proofs.push_part.Goals as goal

pub push_limit-requires : goal.push_limit-requires
push_limit-requires c = let p = c.requires.with-same in
    let q = p.place in
    let n : length c.args.l.coefficients ≡ 6 = search rules in
    record { wide = wide-small c.args.a (c.args.a + 1) c.args.l (omega arith) (record { room = n }) p.limit; filled = p.filled }

pub returns-then-c-eq0 : goal.returns-then-c-eq0
returns-then-c-eq0 c =
    let z : ℤ = get_or c.args.l.coefficients c.args.a (pos 0) in
    let at_c : size z ≤ 32767 = front_at (c.args.a + 1) c.args.l.coefficients c.args.a (omega arith)
    (numbers (c.args.a + 1) c.args.l c.requires.with-same.limit).coefficients in
    let S = c.args.words.now in
    adds_same c.args.a c.args.filling.now c.args.count _ _ (sym (part-zero c.args.a (limits_of S c.args.a c.args.same)
    (limits_of S c.args.a c.args.other) c.args.l (zero_bits z at_c c.if-c-eq0.true)))
    c.push_limit.ensures

pub push_combined-requires : goal.push_combined-requires
push_combined-requires c =
    let z : ℤ = get_or c.args.l.coefficients c.args.a (pos 0) in
    let at_c : size z ≤ 32767 = front_at (c.args.a + 1) c.args.l.coefficients c.args.a (omega arith)
    (numbers (c.args.a + 1) c.args.l c.requires.with-same.limit).coefficients in
    let reads-c : to_z w32 (of_z w32 z) ≡ z = small-back _ at_c in
    let p = c.requires
    in (rw reads-c at_c, p.with-same)

pub returns-then-c-gt0 : goal.returns-then-c-gt0
returns-then-c-gt0 c =
    let z : ℤ = get_or c.args.l.coefficients c.args.a (pos 0) in
    let at_c : size z ≤ 32767 = front_at (c.args.a + 1) c.args.l.coefficients c.args.a (omega arith)
    (numbers (c.args.a + 1) c.args.l c.requires.with-same.limit).coefficients in
    let reads-c : to_z w32 (of_z w32 z) ≡ z = small-back _ at_c in
    let S = c.args.words.now in
    adds_same c.args.a c.args.filling.now c.args.count _ _
    (ap (λ (y : ℤ). map (combined c.args.a y (limit_of (c.args.a + 1) c.args.l)) (limits_of S c.args.a c.args.same)) reads-c
    ∙ sym (part-positive c.args.a (limits_of S c.args.a c.args.same) (limits_of S c.args.a c.args.other) c.args.l
    (test-lt (rw reads-c at c.if-c-gt0.true))))
    c.push_combined.ensures

pub push_combined-requires-2 : goal.push_combined-requires-2
push_combined-requires-2 c =
    let z : ℤ = get_or c.args.l.coefficients c.args.a (pos 0) in
    let at_c : size z ≤ 32767 = front_at (c.args.a + 1) c.args.l.coefficients c.args.a (omega arith)
    (numbers (c.args.a + 1) c.args.l c.requires.with-same.limit).coefficients in
    let reads-c : to_z w32 (of_z w32 z) ≡ z = small-back _ at_c in
    let p = c.requires
    in (rw reads-c at_c, p.with-other)

pub returns : goal.returns
returns c =
    let z : ℤ = get_or c.args.l.coefficients c.args.a (pos 0) in
    let at_c : size z ≤ 32767 = front_at (c.args.a + 1) c.args.l.coefficients c.args.a (omega arith)
    (numbers (c.args.a + 1) c.args.l c.requires.with-same.limit).coefficients in
    let reads-c : to_z w32 (of_z w32 z) ≡ z = small-back _ at_c in
    let not-zero : z ≡ pos 0 → ⊥ = λ e. zero_test z c.if-c-eq0.false e in
    let S = c.args.words.now in
    adds_same c.args.a c.args.filling.now c.args.count _ _
    (ap (λ (y : ℤ). map (combined c.args.a y (limit_of (c.args.a + 1) c.args.l)) (limits_of S c.args.a c.args.other)) reads-c
    ∙ sym (part-negative c.args.a (limits_of S c.args.a c.args.same) (limits_of S c.args.a c.args.other) c.args.l
    not-zero (test-lt-no (rw reads-c at c.if-c-gt0.false))))
    c.push_combined-2.ensures
