-- A list that is copied to place `at` of another, element by element: j of them stand there. Asked by every loop that copies.
use mathlib.Core.Path.{◌≡◌, sym, ap, ap₂, ◌∙◌}
use mathlib.Core.List.{List}
use Prim.Native.Nat.{ℕ, ◌+◌, ◌≤◌, ◌<◌}
use native.Mathlib.Omega.{arith}
use native.Mathlib.Numerals.{add-one}
use lib.ListN.{length, get_or, take, set}
use lib.Seq.{take-suc, take-length, length-take-le}
use Rattle.lists.specs.Parts.{put}
use Rattle.lists.proofs.PartLaws.{length-put, set-put}

module _ {A : Type 0} (o row : List A) (at : ℕ) (p : at + length row ≤ length o) (out : List A) (j : ℕ) (e : out ≡ put o at (take j row)) where
  pub copy-room : j ≤ length row → length out ≡ length o
  copy-room h = let n = length-take-le j row h in ap length e ∙ length-put o at (take j row) (omega arith)

  pub copy_more : (d : A) → j < length row → set out (at + j) (get_or row j d) ≡ put o at (take (j + 1) row)
  copy_more d h =
      let n : length (take j row) ≡ j = length-take-le j row (omega arith) in
      ap₂ (λ w m. set w (at + m) (get_or row j d)) e (sym n)
      ∙ set-put o at (take j row) (get_or row j d) (omega arith)
      ∙ ap (put o at) (sym (take-suc row j d h) ∙ ap (λ m. take m row) (sym (add-one j)))

  pub copy_done : j ≡ length row → out ≡ put o at row
  copy_done h = e ∙ ap (put o at) (ap (λ m. take m row) h ∙ take-length row)
