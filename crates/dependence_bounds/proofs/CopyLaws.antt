-- Words copied one by one.
use mathlib.Core.Path.{◌≡◌, sym, ap, ◌∙◌}
use Prim.Native.Nat.{ℕ, ◌+◌, ◌≤◌, ◌<◌}
use native.Mathlib.Omega.{arith}
use lib.IntN.{ℤ, pos}
use lib.ListN.{length, get_or, take, set}
use lib.Seq.{take-length}
use mathlib.Core.List.{List}
use mir.Syntax.{w16}
use mir.Val.{SFits, to_z, of_z}
use mir.Facts.{to_z-of_z}
use Rattle.nest_rows.proofs.RowLaws.{read_more}

module _ (o from : List ℤ) (i : ℕ) (room : length o ≡ length from) (e : take i o ≡ take i from) where
  pub copy_more : i < length from → SFits w16 (get_or from i (pos 0))
      → take (i + 1) (set o i (to_z w16 (of_z w16 (get_or from i (pos 0))))) ≡ take (i + 1) from
  copy_more h f = read_more from 0 i o (to_z w16 (of_z w16 (get_or from i (pos 0)))) (omega arith) (omega arith) e
      (to_z-of_z f ∙ ap (λ (k : ℕ). get_or from k (pos 0)) (let q : i ≡ 0 + i = omega arith in q))

  pub copy_done : i ≤ length from → length from ≤ i → o ≡ from
  copy_done h g =
      let q : i ≡ length from = omega arith in
      sym (take-length o) ∙ ap (λ (k : ℕ). take k o) (room ∙ sym q) ∙ e ∙ ap (λ (k : ℕ). take k from) q ∙ take-length from
