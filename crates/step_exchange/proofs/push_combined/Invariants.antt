use mathlib.Core.List.{[], ◌∷◌, flat_map}
use Prim.Native.Nat.{◌+◌, ◌≤◌}
use Rattle.model.specs.Limits.{combined}
use Rattle.ticket_loops.specs.LoopReads.{limit_of}
use Rattle.nest_flat.specs.Flat.{limits_at}
use Rattle.step_exchange_sides.specs.Filling.{Adds}
use Rattle.step_exchange.proofs.push_combined.Given as goal

abbrev pub invariant-loop-k : goal.invariant-loop-k
invariant-loop-k l = (l.k ≤ l.many)
    × Adds l.a l.initial.filling l.count (flat_map (λ m. combined l.a l.c (limit_of (l.a + 1) l.l) m ∷ []) (limits_at l.words l.a l.from l.k)) l.filling l.held
