-- `affine_first`: the sum and the product stay within 64 bits.
use borrow.Author.Rules.{rules}
use native.Mathlib.Omega.{arith}
use Rattle.integers.proofs.SumLaws.{sum-none, product-fits, sum-fits, term-fits, sum_more}
use Rattle.integers.proofs.affine_first.Goals as goal

pub loop-i-init : goal.loop-i-init
loop-i-init c = let s = sum-none _ _ _ c.requires.0 in search rules

pub overflow_mul-sum : goal.overflow_mul-sum
overflow_mul-sum c = (product-fits c.loop-i.invariant _).0

pub overflow_add-sum : goal.overflow_add-sum
overflow_add-sum c = sum-fits c.loop-i.invariant _

pub loop-i-preserved : goal.loop-i-preserved
loop-i-preserved c = let f = term-fits c.loop-i.invariant in sum_more c.loop-i.invariant (omega arith) (search rules)
