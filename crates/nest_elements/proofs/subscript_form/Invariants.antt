-- `subscript_form`: the first l words are copied.
use mathlib.Core.Path.{◌≡◌}
use Prim.Native.Nat.{◌≤◌}
use lib.ListN.{length, take}
use Rattle.nest_elements.specs.Forms.{words_at}
use Rattle.nest_elements.proofs.subscript_form.Given as goal

abbrev pub invariant-loop-l : goal.invariant-loop-l
invariant-loop-l l = (l.l ≤ 8) × (length l.r ≡ 8) × (take l.l l.r ≡ take l.l (words_at l.words l.j))
