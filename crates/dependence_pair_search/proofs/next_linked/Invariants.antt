-- `next_linked`. The loop's invariant: no place from y on and before i has a link.
use mathlib.Core.Path.{◌≡◌}
use Prim.Native.Nat.{ℕ, ◌-◌, ◌≤◌, ◌<◌}
use lib.ListN.{get_or}
use Rattle.dependence_pair_search.proofs.next_linked.Given as goal

abbrev pub invariant-loop-i : goal.invariant-loop-i
invariant-loop-i l = (l.y ≤ l.i) × (l.i ≤ l.end) × ((k : ℕ) → k < l.i → l.y ≤ k → get_or l.start k 0 ≡ 0)

abbrev pub decreases-loop-i : goal.decreases-loop-i
decreases-loop-i l = l.end - l.i
