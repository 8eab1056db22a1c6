use mathlib.Core.List.{flat_map}
use Prim.Native.Nat.{◌+◌, ◌≤◌}
use Rattle.nest_flat.specs.Flat.{limits_at}
use Rattle.step_exchange_sides.specs.Filling.{Adds}
use Rattle.step_exchange.specs.Pair.{taken_of}
use Rattle.step_exchange.proofs.push_solved.Given as goal

abbrev pub invariant-loop-k : goal.invariant-loop-k
invariant-loop-k l = (l.k ≤ l.many)
    × Adds (l.a + 1) l.initial.filling l.count (flat_map (taken_of l.positive l.a) (limits_at l.words (l.a + 1) l.from l.k)) l.filling l.held
