-- `side_extreme`: what the limits from limit j + i on allow.
use mathlib.Core.Path.{◌≡◌}
use Prim.Native.Nat.{◌+◌, ◌-◌}
use Rattle.nest_index_range.specs.Ranges.{Narrow}
use Rattle.nest_loop_ranges.specs.Ranges.{ranges_of}
use Rattle.nest_loop_ranges.specs.Values.{extreme_from}
use Rattle.nest_loop_ranges.proofs.side_extreme.Given as goal

abbrev pub invariant-loop-i : goal.invariant-loop-i
invariant-loop-i l = (l.extreme ≡ extreme_from l.side l.nest l.k (l.j + l.i) (l.n - l.i) (ranges_of l.k l.outer)) × Narrow l.extreme
