-- `difference_span`: the loops from k on are in the range.
use Rattle.dependence_banerjee.proofs.ExtentLaws.{Inward}
use Rattle.dependence_banerjee.proofs.difference_span.Given as goal

abbrev pub invariant-loop-k : goal.invariant-loop-k
invariant-loop-k l = Inward l.words l.i l.j l.m l.n l.ranges l.u l.k l.v l.r
