use mathlib.Core.Path.{◌≡◌, sym, ap, ◌∙◌}
use native.Mathlib.Omega.{arith}
use Rattle.pair_records.specs.Statements.{named_in}
use Rattle.pair_records.proofs.ConflictLaws.{named_none, named-not, named-there}
use Rattle.pair_records.proofs.names.Goals as goal

pub loop-k-init : goal.loop-k-init
loop-k-init c = let a = c.args in let r = c.requires.0.rising in
    (omega arith, r, named_none a.nest.now.count a.nest.now.numbers.now a.from a.x a.e)

pub returns-then-number-e : goal.returns-then-number-e
returns-then-number-e c = let a = c.args in let l = c.loop-k in
    sym (named-there a.nest.now.count a.nest.now.numbers.now a.from a.x a.e l.k a.end l.invariant.0 c.loop-k-test.true
    (sym c.number.ensures ∙ c.if-number-e.true))

pub loop-k-preserved : goal.loop-k-preserved
loop-k-preserved c = let a = c.args in let l = c.loop-k in
    let i = l.invariant.0 in let t = c.loop-k-test.true in
    (omega arith, omega arith, named-not a.nest.now.count a.nest.now.numbers.now a.from a.x a.e l.k l.invariant.2 (λ e. c.if-number-e.false (c.number.ensures ∙ e)))

pub returns : goal.returns
returns c = let a = c.args in let l = c.loop-k in let t = c.loop-k-test.false in let i = l.invariant.1 in
    let e : a.end ≡ l.k = omega arith in sym (ap (λ k. named_in a.nest.now.count a.nest.now.numbers.now a.from k a.x a.e) e ∙ l.invariant.2)
