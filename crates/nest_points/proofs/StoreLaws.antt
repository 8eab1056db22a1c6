-- A row written element by element, then one element more.
use mathlib.Core.Path.{◌≡◌, sym, ◌∙◌, ap}
use mathlib.Core.List.{List, [], ◌∷◌, ◌++◌}
use Prim.Native.Nat.{ℕ, ◌+◌, ◌≤◌, ◌<◌}
use native.Mathlib.Omega.{arith}
use native.Mathlib.Numerals.{add-one}
use lib.IntN.{ℤ, pos}
use lib.ListN.{length, take, set, get_or}
use lib.Seq.{take-suc, take-length, length-take-le}
use mir.Syntax.{w64}
use mir.Val.{SFits, to_z, of_z}
use Rattle.lists.specs.Parts.{put}
use Rattle.lists.proofs.PartLaws.{length-put, set-put}
use Rattle.integers.proofs.RangeLaws.{back}

module _ (o row : List ℤ) (at : ℕ) (p : at + length row ≤ length o) (out : List ℤ) (j : ℕ) (e : out ≡ put o at (take j row)) where
  written : j ≤ length row → length (take j row) ≡ j
  written h = length-take-le j row h

  pub copy-room : j ≤ length row → length out ≡ length o
  copy-room h = let n = written h in ap length e ∙ length-put o at (take j row) (omega arith)

  pub copy_more : j < length row → SFits w64 (get_or row j (pos 0))
      → set out (at + j) (to_z w64 (of_z w64 (get_or row j (pos 0)))) ≡ put o at (take (j + 1) row)
  copy_more h f =
      let n : length (take j row) ≡ j = written (omega arith) in
      ap (λ (w : List ℤ). set w (at + j) (to_z w64 (of_z w64 (get_or row j (pos 0))))) e
      ∙ ap (λ (v : ℤ). set (put o at (take j row)) (at + j) v) (back f)
      ∙ ap (λ (m : ℕ). set (put o at (take j row)) (at + m) (get_or row j (pos 0))) (sym n)
      ∙ set-put o at (take j row) (get_or row j (pos 0)) (omega arith)
      ∙ ap (put o at) (sym (take-suc row j (pos 0) h) ∙ ap (λ (m : ℕ). take m row) (sym (add-one j)))

  pub copy_done : j ≡ length row → out ≡ put o at row
  copy_done h = e ∙ ap (put o at) (ap (λ (m : ℕ). take m row) h ∙ take-length row)

pub copy-one-more : (o row : List ℤ) (at : ℕ) (out : List ℤ) (v : ℤ) → at + length row < length o → out ≡ put o at row
    → set out (at + length row) v ≡ put o at (row ++ (v ∷ []))
copy-one-more o row at out v h e = ap (λ (w : List ℤ). set w (at + length row) v) e ∙ set-put o at row v h
