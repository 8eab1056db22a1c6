-- `is_compact`: the ranges so far make a compact box, whose volume is kept.
use Prim.Native.Nat.{◌≤◌}
use Rattle.nest_bounding_box.proofs.WidthLaws.{CompactTo}
use Rattle.nest_bounding_box.proofs.is_compact.Given as goal

abbrev pub invariant-loop-range : goal.invariant-loop-range
invariant-loop-range l = (l.range-index ≤ l.n) × CompactTo l.fn.ranges l.range-index l.volume
