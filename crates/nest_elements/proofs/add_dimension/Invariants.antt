-- `add_dimension`: the first l numbers are folded.
use mathlib.Core.Path.{◌≡◌}
use Prim.Native.Nat.{◌≤◌}
use lib.ListN.{length, take}
use Rattle.nest_elements.specs.Forms.{words_at, folded}
use Rattle.nest_elements.proofs.add_dimension.Given as goal

abbrev pub invariant-loop-l : goal.invariant-loop-l
invariant-loop-l l = (l.l ≤ 8) × (length l.r ≡ 8) × (take l.l l.r ≡ folded l.extent (take l.l l.x-items) (take l.l (words_at l.words l.j)))
