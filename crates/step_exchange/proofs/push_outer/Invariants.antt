use mathlib.Core.List.{flat_map}
use Prim.Native.Nat.{◌+◌, ◌≤◌}
use Rattle.model.specs.Limits.{outer_coefficient, outer_part}
use Rattle.nest_flat.specs.Flat.{limits_at}
use Rattle.step_exchange_sides.specs.Filling.{Adds}
use Rattle.step_exchange.specs.Pair.{limits_of}
use Rattle.step_exchange.proofs.push_outer.Given as goal

abbrev pub invariant-loop-k : goal.invariant-loop-k
invariant-loop-k l = (l.k ≤ l.many)
    × Adds l.a l.initial.filling 0 (flat_map (λ x. outer_part l.a (limits_of l.words l.a l.same) (limits_of l.words l.a l.other) (outer_coefficient l.a x) x)
    (limits_at l.words (l.a + 1) l.from l.k)) l.filling l.held
