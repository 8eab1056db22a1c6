-- `form_of`: the form by the first d dimensions.
use mathlib.Core.Path.{◌≡◌}
use Prim.Native.Nat.{◌≤◌}
use Rattle.nest_elements.specs.Forms.{form_to}
use Rattle.nest_elements.proofs.form_of.Given as goal

abbrev pub invariant-loop-d : goal.invariant-loop-d
invariant-loop-d l = (l.d ≤ l.dimensions) × (l.form ≡ form_to l.words l.accessed l.arrays l.k l.d)
