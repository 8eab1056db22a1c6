-- `least_value` and `greatest_value`, a cycle of calls: the measure of each is its loop's number. The array holds the ranges of those of the loops so far
-- of which one of the limits has a coefficient.
use Prim.Native.Nat.{◌*◌}
use Rattle.nest_loop_ranges.proofs.FreeLaws.{NeededAre}
use Rattle.nest_loop_ranges.proofs.+loop_values.Given as goal

abbrev pub decreases-least_value : goal.decreases-least_value
decreases-least_value l = l.k

abbrev pub invariant-least_value-loop-i : goal.invariant-least_value-loop-i
invariant-least_value-loop-i l = NeededAre l.nest l.counts (l.place * 16) l.n l.i l.outer

abbrev pub decreases-greatest_value : goal.decreases-greatest_value
decreases-greatest_value l = l.k

abbrev pub invariant-greatest_value-loop-i : goal.invariant-greatest_value-loop-i
invariant-greatest_value-loop-i l = NeededAre l.nest l.counts (l.place * 16) l.n l.i l.outer
