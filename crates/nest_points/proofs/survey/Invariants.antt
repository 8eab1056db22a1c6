-- `survey`: every depth before `level` keeps its bounds.
use mathlib.Core.Path.{◌≡◌}
use Prim.Native.Nat.{◌+◌, ◌-◌, ◌≤◌, ◌<◌}
use lib.ListN.{length}
use Rattle.model.specs.Points.{partial_points}
use Rattle.nest_flat.specs.Flat.{loops_from}
use Rattle.nest_points.proofs.DepthLaws.{Passed}
use Rattle.nest_points.proofs.survey.Given as goal

abbrev pub invariant-loop-level : goal.invariant-loop-level
invariant-loop-level l =
    (1 ≤ l.level) × Passed l.bound l.most (loops_from l.nest.limits.now l.counts 0 l.depth) l.level × (l.level ≤ l.depth + 1)
    × (1 < l.level → l.count ≡ length (partial_points (l.level - 1) (loops_from l.nest.limits.now l.counts 0 l.depth)))
