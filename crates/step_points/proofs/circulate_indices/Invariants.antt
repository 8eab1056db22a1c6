use Prim.Native.Nat.{◌≤◌}
use lib.ListN.{length}
use Rattle.model.specs.Steps.{chain}
use Rattle.step_points.proofs.IndexLaws.{Walked}
use Rattle.step_points.proofs.circulate_indices.Given as goal

abbrev pub invariant-loop-j : goal.invariant-loop-j
invariant-loop-j l = (l.j ≤ length (chain l.a l.b)) × Walked l.a l.b l.n l.initial.r l.j l.r
