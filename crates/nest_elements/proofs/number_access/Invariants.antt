-- `number_access`: the places at the first i points are written; row i begins at `at`.
use mathlib.Core.Path.{◌≡◌}
use Prim.Native.Nat.{◌*◌, ◌≤◌}
use Rattle.lists.specs.Parts.{rows, put}
use Rattle.nest_elements.specs.Places.{places_of}
use Rattle.nest_elements.proofs.number_access.Given as goal

abbrev pub invariant-loop-i : goal.invariant-loop-i
invariant-loop-i l = (l.i ≤ l.count) × (l.at ≡ l.i * l.depth)
    × (l.out ≡ put l.initial.out (l.k * l.count) (places_of l.words l.accessed l.arrays l.depth (rows l.depth l.i l.points) l.k))
