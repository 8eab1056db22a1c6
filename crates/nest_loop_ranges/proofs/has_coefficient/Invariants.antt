-- `has_coefficient`. The loop's invariant: none of the first l limits has a coefficient of loop i.
use Prim.Native.Nat.{◌≤◌}
use Rattle.nest_loop_ranges.specs.Values.{Free}
use Rattle.nest_loop_ranges.proofs.has_coefficient.Given as goal

abbrev pub invariant-loop-l : goal.invariant-loop-l
invariant-loop-l l = (l.l ≤ l.n) × Free l.nest l.j l.l l.i
