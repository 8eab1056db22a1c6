-- `collect_last`: the points of the first t indices are written, and p stands after them.
use mathlib.Core.Path.{◌≡◌}
use Prim.Native.Nat.{◌+◌, ◌≤◌}
use lib.ListN.{length}
use Rattle.lists.specs.Parts.{put}
use Rattle.nest_points.proofs.CollectLaws.{words}
use Rattle.nest_points.proofs.collect_last.Given as goal

abbrev pub invariant-loop-t : goal.invariant-loop-t
invariant-loop-t l = (l.t ≤ l.n) × (l.p ≡ l.at + length (words l.nest l.counts (length l.outer) 1 l.outer l.e.lo l.t))
    × (l.out ≡ put l.initial.out l.at (words l.nest l.counts (length l.outer) 1 l.outer l.e.lo l.t))
