-- `base_of`: r is where array j begins.
use mathlib.Core.Path.{◌≡◌}
use Prim.Native.Nat.{◌≤◌}
use Rattle.model.specs.Store.{base}
use Rattle.nest_flat.specs.Layout.{arrays_of}
use Rattle.nest_elements.proofs.base_of.Given as goal

abbrev pub invariant-loop-j : goal.invariant-loop-j
invariant-loop-j l = (l.j ≤ l.i) × (l.r ≡ base (arrays_of l.arrays) l.j)
