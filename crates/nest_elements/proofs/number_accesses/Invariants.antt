-- `number_accesses`: the places of the first k accesses are written.
use mathlib.Core.Path.{◌≡◌}
use Prim.Native.Nat.{◌≤◌}
use lib.ListN.{length}
use Rattle.lists.specs.Parts.{rows}
use Rattle.nest_elements.specs.Places.{places_of}
use Rattle.nest_elements.proofs.NumberLaws.{numbered}
use Rattle.nest_elements.proofs.number_accesses.Given as goal

abbrev pub invariant-loop-k : goal.invariant-loop-k
invariant-loop-k l = (l.k ≤ length l.accessed)
    × (l.numbers ≡ numbered l.count (places_of l.words l.accessed l.extents l.depth (rows l.depth l.count l.points)) l.k l.initial.numbers)
