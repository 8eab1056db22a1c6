-- `link_points`. The loop's invariant: the heads are those of the points from x on, and these are linked.
use mathlib.Core.Path.{◌≡◌}
use Prim.Native.Nat.{◌≤◌}
use lib.ListN.{length}
use Rattle.pair_partners.specs.Chains.{Heads, LinkedFrom}
use Rattle.pair_partners.proofs.link_points.Given as goal

abbrev pub invariant-loop-x : goal.invariant-loop-x
invariant-loop-x l = (l.x ≤ l.nest.count) × (length l.heads ≡ length l.initial.heads)
    × (length l.links ≡ length l.initial.links) × Heads l.nest.numbers.now l.nest.writes.now l.nest.count l.nest.accesses l.all l.x l.heads × LinkedFrom l.nest.numbers.now l.nest.writes.now l.nest.count l.nest.accesses l.all l.x l.links

abbrev pub decreases-loop-x : goal.decreases-loop-x
decreases-loop-x l = l.x
