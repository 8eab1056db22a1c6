use mathlib.Core.List.{[], ◌∷◌, flat_map}
use Prim.Native.Nat.{◌+◌, ◌≤◌}
use Rattle.model.specs.Limits.{widened}
use Rattle.nest_flat.specs.Flat.{limits_at}
use Rattle.step_exchange_sides.specs.Filling.{Adds}
use Rattle.step_exchange.proofs.push_widened.Given as goal

abbrev pub invariant-loop-k : goal.invariant-loop-k
invariant-loop-k l = (l.k ≤ l.many)
    × Adds (l.a + 1) l.initial.filling 0 (flat_map (λ l. widened l ∷ []) (limits_at l.words l.a l.from l.k)) l.filling l.held
