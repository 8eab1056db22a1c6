-- `gcd_excludes_zero`: the loops from k on are in the range, those outside are left to their divisor.
use Rattle.dependence_banerjee.proofs.ExtentLaws.{Inward}
use Rattle.dependence_banerjee.proofs.gcd_excludes_zero.Given as goal

abbrev pub invariant-loop-k : goal.invariant-loop-k
invariant-loop-k l = Inward l.words l.i l.j 1 l.n l.ranges l.u l.k l.v l.r
