-- `put_filled_side`: limit by limit.
use mathlib.Core.Path.{◌≡◌}
use mathlib.Core.Bool.{true}
use Prim.Native.Nat.{◌≤◌}
use Rattle.lists.specs.Tests.{all}
use Rattle.model.specs.Judge.{small_limit}
use Rattle.nest_flat.specs.Flat.{limits_at}
use Rattle.ticket_loops.specs.Laid.{lay_limits}
use Rattle.step_exchange_sides.proofs.put_filled_side.Given as goal

abbrev pub invariant-loop-k : goal.invariant-loop-k
invariant-loop-k l = (l.k ≤ l.count) × (all small_limit (limits_at l.filling l.n 0 l.k) ≡ true)
    × (l.words ≡ lay_limits l.initial.words l.j (limits_at l.filling l.n 0 l.k))
