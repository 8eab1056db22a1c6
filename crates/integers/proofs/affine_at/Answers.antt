-- `affine_at`: the sum and the product stay within 64 bits.
use native.Mathlib.Omega.{arith}
use borrow.Author.Rules.{rules}
use Rattle.integers.proofs.SumLaws.{at_none, at-fits, at_more, at_all}
use Rattle.integers.proofs.affine_at.Goals as goal

pub loop-i-init : goal.loop-i-init
loop-i-init c = at_none c.requires c.word-sum.ensures

pub overflow_mul-sum : goal.overflow_mul-sum
overflow_mul-sum c = (at-fits c.requires c.loop-i-test.true c.loop-i.invariant c.word.ensures).0

pub overflow_add-sum : goal.overflow_add-sum
overflow_add-sum c = let f = at-fits c.requires c.loop-i-test.true c.loop-i.invariant c.word.ensures in search rules

pub loop-i-preserved : goal.loop-i-preserved
loop-i-preserved c = let f = at-fits c.requires c.loop-i-test.true c.loop-i.invariant c.word.ensures in
    at_more c.requires c.loop-i-test.true c.loop-i.invariant c.word.ensures (search rules)

pub returns : goal.returns
returns c = let e = at_all c.requires c.loop-i.invariant (omega (arith, c.loop-i-test.false)) in search rules
