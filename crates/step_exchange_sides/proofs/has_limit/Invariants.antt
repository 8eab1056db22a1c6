use mathlib.Core.Path.{◌≡◌}
use mathlib.Core.Bool.{false}
use Prim.Native.Nat.{◌≤◌}
use Rattle.lists.specs.Tests.{any}
use Rattle.model.specs.Limits.{same_limit}
use Rattle.ticket_loops.specs.LoopReads.{limit_of}
use Rattle.nest_flat.specs.Flat.{limits_at}
use Rattle.step_exchange_sides.proofs.has_limit.Given as goal

abbrev pub invariant-loop-k : goal.invariant-loop-k
invariant-loop-k l = (l.k ≤ l.count) × (any (same_limit (limit_of l.n l.x)) (limits_at l.filling l.n 0 l.k) ≡ false)
