-- `tally_points`: the tally so far is that of the points of the first t indices, and the first k indices of the point stand. The number of loops left falls.
use mathlib.Core.Path.{◌≡◌}
use mathlib.Core.List.{flat_map}
use Prim.Native.Nat.{suc, ◌≤◌}
use lib.ListN.{length, take}
use Rattle.model.specs.Points.{ints}
use Rattle.nest_points.specs.Tallies.{seen}
use Rattle.nest_points.proofs.ThroughLaws.{after}
use Rattle.nest_points.proofs.+tally_points.Given as goal

abbrev pub decreases-tally_points : goal.decreases-tally_points
decreases-tally_points l = l.left

abbrev pub invariant-loop-t : goal.invariant-loop-t
invariant-loop-t l =
    (l.t ≤ l.n) × (l.b.count ≤ suc l.most) × (l.b ≡ seen l.bound l.most l.initial.b (flat_map (after l.nest l.counts l.k l.left (take l.k l.initial.point)) (ints l.e.lo l.t)))
    × (take l.k l.point ≡ take l.k l.initial.point) × (length l.point ≡ length l.initial.point)
