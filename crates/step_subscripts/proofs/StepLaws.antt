-- The step that a match found: what it asks, and the row that it makes.
use mathlib.Core.Path.{◌≡◌, sym, subst}
use mathlib.Core.List.{List}
use Prim.Native.Nat.{ℕ, suc, ◌+◌}
use native.Mathlib.Numerals.{add-one}
use lib.IntN.{ℤ}
use lib.ListN.{length, take}
use Rattle.model.specs.Grammar.{depth_after}
use Rattle.model.specs.Ranges.{StepThere}
use Rattle.model.specs.Limits.{coefficients_after}
use Rattle.nest_rows.specs.Rows.{RowIs}
use Rattle.step_kinds.specs.Kinds.{stage_of}
use Rattle.step_kinds.specs.declared.Stage.{Stage}
use Rattle.step_subscripts.specs.After.{StepFits}

module _ (t d : Stage) (n : ℕ) (e : t ≡ d) where
  pub there : StepFits n t → StepThere n (stage_of d)
  there f = subst (λ (x : Stage). StepThere n (stage_of x)) e f.there

  pub row_is : (cs r : List ℤ) → take (depth_after (stage_of d) n) r ≡ coefficients_after (stage_of d) (take n cs) → length r ≡ 6
      → RowIs (depth_after (stage_of t) n) r (coefficients_after (stage_of t) (take n cs))
  row_is cs r f l = subst (λ (x : Stage). RowIs (depth_after (stage_of x) n) r (coefficients_after (stage_of x) (take n cs))) (sym e)
      (record { is = f; room = l })

-- one coefficient more
pub row-longer : (n : ℕ) (r row : List ℤ) → take (n + 1) r ≡ row → take (suc n) r ≡ row
row-longer n r row f = subst (λ m. take m r ≡ row) (add-one n) f
