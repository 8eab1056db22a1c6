-- `affine_first`: the sum of the first i products.
use Rattle.integers.specs.Affine.{SumTo}
use Rattle.integers.proofs.affine_first.Given as goal

abbrev pub invariant-loop-i : goal.invariant-loop-i
invariant-loop-i l = SumTo l.constant l.coefficients l.indices l.i l.sum
