-- `collect`: the points of the first t indices are written, p stands after them, and the first k indices of the point stand. The number of loops left falls.
use mathlib.Core.Path.{◌≡◌}
use Prim.Native.Nat.{◌+◌, ◌≤◌}
use lib.ListN.{length, take}
use Rattle.lists.specs.Parts.{put}
use Rattle.nest_points.proofs.CollectLaws.{words}
use Rattle.nest_points.proofs.+collect.Given as goal

abbrev pub decreases-collect : goal.decreases-collect
decreases-collect l = l.left

abbrev pub invariant-loop-t : goal.invariant-loop-t
invariant-loop-t l =
    (l.t ≤ l.n) × (l.p ≡ l.at + length (words l.nest l.counts l.k l.left (take l.k l.initial.point) l.e.lo l.t))
    × (l.out ≡ put l.initial.out l.at (words l.nest l.counts l.k l.left (take l.k l.initial.point) l.e.lo l.t)) × (take l.k l.point ≡ take l.k l.initial.point) × (length l.point ≡ length l.initial.point)
