-- `head_point`. The loop's invariant: x is the head of the elements that the accesses before k name at x, and no other head has changed.
use mathlib.Core.Path.{◌≡◌}
use Prim.Native.Nat.{◌≤◌}
use lib.ListN.{length}
use Rattle.pair_partners.proofs.ChainLaws.{Heading}
use Rattle.pair_partners.proofs.head_point.Given as goal

abbrev pub invariant-loop-k : goal.invariant-loop-k
invariant-loop-k l = (l.k ≤ l.nest.accesses) × (length l.heads ≡ length l.initial.heads)
    × Heading l.nest.numbers.now l.nest.writes.now l.nest.count l.all l.initial.heads l.heads l.x l.k
