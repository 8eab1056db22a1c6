-- `covers_vectors`: every candidate before u is marked or impossible.
use Prim.Native.Nat.{◌≤◌}
use Rattle.dependence_banerjee.proofs.CoverLaws.{CoveredTo}
use Rattle.dependence_banerjee.proofs.covers_vectors.Given as goal

abbrev pub invariant-loop-u : goal.invariant-loop-u
invariant-loop-u l = (l.u ≤ l.end) × CoveredTo l.words l.a l.b l.d l.n l.ranges l.base l.marks l.step l.u
