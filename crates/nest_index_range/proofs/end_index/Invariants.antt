-- `end_index`: what the limits from limit j + i on allow.
use mathlib.Core.Path.{◌≡◌}
use mathlib.Core.List.{map}
use Prim.Native.Nat.{◌+◌, ◌-◌}
use lib.ListN.{length}
use Rattle.nest_flat.specs.Flat.{limits_at}
use Rattle.nest_index_range.specs.Sides.{tightest}
use Rattle.nest_index_range.specs.Ranges.{Narrow, allowed}
use Rattle.nest_index_range.proofs.end_index.Given as goal

abbrev pub invariant-loop-i : goal.invariant-loop-i
invariant-loop-i l = (l.end ≡ tightest l.side (map (allowed l.side l.outer) (limits_at l.nest (length l.outer) (l.j + l.i) (l.n - l.i)))) × Narrow l.end
