-- `is_candidate`: w is what is left of v for its k outermost signs.
use Rattle.dependence_vectors.proofs.CandidateLaws.{Outer}
use Rattle.dependence_vectors.proofs.is_candidate.Given as goal

abbrev pub invariant-loop-k : goal.invariant-loop-k
invariant-loop-k l = Outer l.v l.k l.w
