use mathlib.Core.Path.{◌≡◌, refl, ap, ◌∙◌}
use mathlib.Core.Bool.{Bool, false}
use mathlib.Core.List.{List}
use Prim.Native.Nat.{ℕ, ◌+◌, ◌<◌}
use native.Mathlib.Omega.{arith}
use lib.ListN.{length, get_or, set, length-set}
use Rattle.dependence_marks.proofs.ClearLaws.{clear-more, clear-done}
use Rattle.dependence_marks.proofs.clear_marks.Goals as goal

-- one mark more, at the place that is written
cleared : (m : List Bool) (i k : ℕ) → k ≡ i → ((j : ℕ) → j < i → get_or m j false ≡ false) → i < length m
    → (j : ℕ) → j < i + 1 → get_or (set m k false) j false ≡ false
cleared m i k e f h j l = ap (λ (x : ℕ). get_or (set m x false) j false) e ∙ clear-more m i f h j l

pub loop-j-init : goal.loop-j-init
loop-j-init c = (refl, λ i h. absurd (omega arith))

pub loop-j-preserved : goal.loop-j-preserved
loop-j-preserved c = let l = c.loop-j in let n = l.invariant.0 in let t = c.loop-j-test.true in (
  length-set l.marks _ false ∙ n,
  cleared l.marks l.j _ (omega arith) l.invariant.1 (omega arith),
)

pub shape_of-marks : goal.shape_of-marks
shape_of-marks c = c.loop-j.invariant.0

pub returns : goal.returns
returns c = let l = c.loop-j in let n = l.invariant.0 in let t = c.loop-j-test.false in (clear-done l.marks l.j l.invariant.1 (omega arith), n)
