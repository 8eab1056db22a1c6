-- `affine_at`: the sum of the first i products.
use Rattle.integers.proofs.SumLaws.{SumAt}
use Rattle.integers.proofs.affine_at.Given as goal

abbrev pub invariant-loop-i : goal.invariant-loop-i
invariant-loop-i l = SumAt l.words l.at l.indices l.i l.sum
