use mathlib.Core.Path.{◌≡◌, refl, sym, ◌∙◌, ap, subst}
use Prim.Native.Nat.{ℕ, ◌+◌, ◌≤◌}
use native.Mathlib.Omega.{arith}
use lib.IntN.{pos}
use lib.ListN.{length, get_or, take, drop, length-drop}
use lib.Seq.{get_or-drop}
use mir.Syntax.{w32}
use mir.Val.{to_z, of_z}
use borrow.Author.Rules.{rules}
use Rattle.integers.specs.Sign.{eq_z}
use Rattle.step_exchange_sides.proofs.SameLaws.{is, is-not, row-differs, row_more, row_same}
use Rattle.step_exchange_sides.proofs.same_row.Goals as goal

pub loop-k-init : goal.loop-k-init
loop-k-init c = (omega arith, refl)

pub returns-then-xs-k : goal.returns-then-xs-k
returns-then-xs-k c =
    let k : ℕ = c.loop-k.k in
    let x = get_or c.args.xs k (pos 0) in
    let y = get_or c.args.numbers.now (c.args.at + k) (pos 0) in
    sym (row-differs k c.args.n c.args.xs (drop c.args.at c.args.numbers.now) (omega arith)
    (ap (eq_z x) (get_or-drop c.args.at c.args.numbers.now k (pos 0)) ∙ is-not x y (λ q. c.if-xs-k.true (ap (of_z w32) q))))

pub loop-k-preserved : goal.loop-k-preserved
loop-k-preserved c =
    let k : ℕ = c.loop-k.k in
    let x = get_or c.args.xs k (pos 0) in
    let y = get_or c.args.numbers.now (c.args.at + k) (pos 0) in
    let back : to_z w32 (of_z w32 x) ≡ x = search rules in
    let back-2 : to_z w32 (of_z w32 y) ≡ y = search rules in
    let rest : c.args.n ≤ length (drop c.args.at c.args.numbers.now) = let n = length-drop c.args.at c.args.numbers.now in omega arith in
    let n : length c.args.xs ≡ 6 = search rules in (
      omega arith,
      row_more k c.args.xs (drop c.args.at c.args.numbers.now) (omega arith) (omega arith) c.loop-k.invariant.1
          (ap (eq_z x) (get_or-drop c.args.at c.args.numbers.now k (pos 0))
          ∙ is x y (sym back ∙ ap (to_z w32) c.if-xs-k.false ∙ back-2)),
    )

pub returns : goal.returns
returns c = let e : c.loop-k.k ≡ c.args.n = omega arith in
    let q : take c.args.n c.args.xs ≡ take c.args.n (drop c.args.at c.args.numbers.now) = subst
    (λ (i : ℕ). take i c.args.xs ≡ take i (drop c.args.at c.args.numbers.now)) e c.loop-k.invariant.1 in
    sym (rw q (row_same (take c.args.n (drop c.args.at c.args.numbers.now))))
