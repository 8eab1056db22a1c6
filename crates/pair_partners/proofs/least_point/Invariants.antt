-- `least_point`. The loop's invariant: it is the least of the chains before k.
use Prim.Native.Nat.{◌≤◌}
use Rattle.pair_partners.specs.Partners.{Least}
use Rattle.pair_partners.proofs.least_point.Given as goal

abbrev pub invariant-loop-k : goal.invariant-loop-k
invariant-loop-k l = (l.k ≤ l.accesses) × Least l.k l.count l.chains l.least
