-- `elements_of`: r is the product of the extents from dimension d on.
use mathlib.Core.Path.{◌≡◌}
use Prim.Native.Nat.{◌*◌, ◌≤◌}
use lib.ListN.{get_or, drop}
use Rattle.model.specs.Grammar.{elements}
use Rattle.nest_flat.specs.Layout.{extents_at}
use Rattle.nest_elements.proofs.elements_of.Given as goal

abbrev pub invariant-loop-d : goal.invariant-loop-d
invariant-loop-d l = (l.at ≡ l.i * 4) × (l.d ≤ get_or l.arrays (l.i * 4) 0) × (l.r ≡ elements (drop l.d (extents_at l.arrays l.i)))
