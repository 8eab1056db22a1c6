-- `has_no_iterations`: v is what is left of u for the k outermost loops.
use Rattle.dependence_banerjee.proofs.RegionLaws.{Outer}
use Rattle.dependence_banerjee.proofs.has_no_iterations.Given as goal

abbrev pub invariant-loop-k : goal.invariant-loop-k
invariant-loop-k l = Outer l.n l.ranges l.u l.k l.v
