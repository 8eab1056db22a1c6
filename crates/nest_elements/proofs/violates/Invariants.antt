-- `violates`: the subscript of the first i points keeps its extent.
use mathlib.Core.Path.{◌≡◌}
use mathlib.Core.Bool.{false}
use Prim.Native.Nat.{◌≤◌}
use Rattle.lists.specs.Parts.{rows}
use Rattle.nest_elements.specs.Search.{violates_at}
use Rattle.nest_elements.proofs.violates.Given as goal

abbrev pub invariant-loop-i : goal.invariant-loop-i
invariant-loop-i l = (l.i ≤ l.count) × (violates_at l.words l.depth l.j l.extent (rows l.depth l.i l.points) ≡ false)
