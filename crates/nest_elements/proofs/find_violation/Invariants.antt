-- `find_violation`: the statements before this one are clear, its accesses before this one, and the dimensions before this one.
use mathlib.Core.Path.{◌≡◌}
use mathlib.Core.Bool.{false}
use Prim.Native.Nat.{◌≤◌}
use Rattle.std.specs.Prelude.{None}
use Rattle.lists.specs.Parts.{rows}
use Rattle.nest_elements.proofs.ViolationLaws.{accesses_violation}
use Rattle.nest_elements.proofs.FindLaws.{violates_to, Reached}
use Rattle.nest_elements.proofs.find_violation.Given as goal

abbrev pub invariant-loop-d : goal.invariant-loop-d
invariant-loop-d l = (l.found ≡ None) × (l.d ≤ l.dimensions)
    × (violates_to l.words l.accessed l.extents l.depth (rows l.depth l.count l.points) l.k l.d ≡ false)

abbrev pub invariant-loop-i : goal.invariant-loop-i
invariant-loop-i l = (l.found ≡ None) × (l.i ≤ l.size)
    × (accesses_violation l.words l.accessed l.extents l.depth (rows l.depth l.count l.points) l.first l.i ≡ false)

abbrev pub invariant-search : goal.invariant-search
invariant-search l = (l.found ≡ None) × Reached l.words l.accessed l.extents l.sizes l.points l.depth l.count l.first l.statement
