use mathlib.Core.Path.{◌≡◌, ◌∙◌}
use native.Mathlib.Omega.{arith}
use borrow.Author.Count.{below_more}
use Rattle.pair_partners.specs.Chains.{number_at}
use Rattle.pair_partners.proofs.access_naming.Goals as goal

pub loop-k-preserved : goal.loop-k-preserved
loop-k-preserved c = let l = c.loop-k in
    let t = c.loop-k-test.true in (
      omega arith,
      below_more (λ j. number_at c.args.tables.now.numbers.now c.args.tables.now.count j c.args.y ≡ c.args.e → ⊥) l.k l.invariant.1
          (λ e. c.if-number-e.false (c.number.ensures ∙ e)),
    )

pub returns : goal.returns
returns c = let l = c.loop-k in let t = c.loop-k-test.false in let w = c.requires.1 in let b = w.1 in
    absurd (l.invariant.1 w.0 (omega arith) w.2)
