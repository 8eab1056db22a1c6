use mathlib.Core.Path.{◌≡◌, sym, ◌∙◌, ap}
use mathlib.Core.List.{[], ◌∷◌}
use Prim.Native.Nat.{◌+◌, ◌≤◌}
use native.Mathlib.Omega.{arith}
use lib.IntN.{ℤ, pos}
use lib.ListN.{get_or}
use mir.Syntax.{w32}
use mir.Val.{to_z, of_z}
use Rattle.integers.specs.Difference.{size}
use Rattle.ticket_loops.specs.LoopReads.{limit_of}
use Rattle.step_limits.proofs.NumberLaws.{small-back}
use Rattle.step_limits.proofs.RowLaws.{front_at}
use Rattle.step_limits.proofs.LimitLaws.{numbers}
use Rattle.step_exchange_sides.proofs.FillLaws.{adds_none, adds_same}
use Rattle.step_exchange.proofs.SpanLaws.{wide-solved}
use Rattle.step_exchange.proofs.SolveLaws.{coefficient-at, zero_bits, zero_test, flags-same, flags-differ, taken-zero, taken-same, taken-other}
use Rattle.step_exchange.proofs.push_taken.Goals as goal

pub returns-then-c-eq0 : goal.returns-then-c-eq0
returns-then-c-eq0 c =
    let z : ℤ = get_or c.args.l.coefficients c.args.a (pos 0) in
    let at_c : size z ≤ 32767 = front_at (c.args.a + 1) c.args.l.coefficients c.args.a (omega arith)
    (numbers (c.args.a + 1) c.args.l c.requires.limit).coefficients in
    adds_same (c.args.a + 1) c.args.filling.now c.args.count c.args.filling.now
    c.args.count (sym (taken-zero c.args.positive c.args.a c.args.l (zero_bits z at_c c.if-c-eq0.true)))
    (adds_none (c.args.a + 1) c.args.filling.now c.args.count c.requires.filled)

pub solved-x-requires : goal.solved-x-requires
solved-x-requires c =
    let z : ℤ = get_or c.args.l.coefficients c.args.a (pos 0) in
    let not-zero : z ≡ pos 0 → ⊥ = λ e. zero_test z c.if-c-eq0.false e in (
      c.requires.place,
      c.requires.limit,
      λ e. not-zero
          (sym (coefficient-at c.args.a c.args.l) ∙ e),
    )

pub push_limit-requires : goal.push_limit-requires
push_limit-requires c = record {
  wide = wide-solved c.args.a (limit_of (c.args.a + 1) c.args.l) c.solved-x.result c.requires.place c.requires.limit
      c.solved-x.ensures;
  filled = c.requires.filled;
}

pub returns-then-rises-positive : goal.returns-then-rises-positive
returns-then-rises-positive c =
    let z : ℤ = get_or c.args.l.coefficients c.args.a (pos 0) in
    let at_c : size z ≤ 32767 = front_at (c.args.a + 1) c.args.l.coefficients c.args.a (omega arith)
    (numbers (c.args.a + 1) c.args.l c.requires.limit).coefficients in
    let reads-c : to_z w32 (of_z w32 z) ≡ z = small-back _ at_c in
    let not-zero : z ≡ pos 0 → ⊥ = λ e. zero_test z c.if-c-eq0.false e in
    adds_same (c.args.a + 1) c.args.filling.now c.args.count _ _
    (ap (◌∷ []) c.solved-x.ensures.is
    ∙ sym (taken-same c.args.positive c.args.a c.args.l not-zero
    (flags-same _ _ (rw reads-c at c.if-rises-positive.true))))
    c.push_limit.ensures

pub returns : goal.returns
returns c =
    let z : ℤ = get_or c.args.l.coefficients c.args.a (pos 0) in
    let at_c : size z ≤ 32767 = front_at (c.args.a + 1) c.args.l.coefficients c.args.a (omega arith)
    (numbers (c.args.a + 1) c.args.l c.requires.limit).coefficients in
    let reads-c : to_z w32 (of_z w32 z) ≡ z = small-back _ at_c in
    let not-zero : z ≡ pos 0 → ⊥ = λ e. zero_test z c.if-c-eq0.false e in
    adds_same (c.args.a + 1) c.args.filling.now c.args.count c.args.filling.now c.args.count
    (sym (taken-other c.args.positive c.args.a c.args.l not-zero
    (flags-differ _ _ (rw reads-c at c.if-rises-positive.false)))) (adds_none (c.args.a + 1) c.args.filling.now c.args.count
    c.requires.filled)
