-- `link_point`. The loop's invariant: the links of the accesses before k are there, and those of the points after x are as they were.
use mathlib.Core.Path.{◌≡◌}
use Prim.Native.Nat.{◌≤◌}
use lib.ListN.{length}
use Rattle.pair_partners.proofs.ChainLaws.{Linking}
use Rattle.pair_partners.proofs.link_point.Given as goal

abbrev pub invariant-loop-k : goal.invariant-loop-k
invariant-loop-k l = (l.k ≤ l.nest.accesses) × (length l.links ≡ length l.initial.links)
    × Linking l.nest.numbers.now l.nest.count l.nest.accesses l.heads l.initial.links l.links l.x l.k
