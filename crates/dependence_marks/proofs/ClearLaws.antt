-- Marks that are all clear: as they are made, and cleared one by one.
use mathlib.Core.Path.{◌≡◌, refl, ◌∙◌, subst}
use mathlib.Core.Bool.{Bool, false}
use mathlib.Core.List.{List}
use Prim.Native.Nat.{ℕ, zero, suc, ◌+◌, ◌≤◌, ◌<◌}
use native.Mathlib.Omega.{arith}
use native.Mathlib.Decide.{dec_lt}
use lib.ListN.{length, get_or, set, replicate, get_or-eq_default}
use lib.Seq.{get_or-set_same, get_or-set_other}

pub clear-marks : (n j : ℕ) → get_or (replicate n false) j false ≡ false
clear-marks zero j = refl
clear-marks (suc n) zero = refl
clear-marks (suc n) (suc j) = clear-marks n j

module _ (m : List Bool) (i : ℕ) (f : (j : ℕ) → j < i → get_or m j false ≡ false) where
  pub clear-more : i < length m → (j : ℕ) → j < i + 1 → get_or (set m i false) j false ≡ false
  clear-more h j l = elim (dec_lt j i) [
    | yes g ↦ get_or-set_other m i j false false (λ e. omega arith) ∙ f j g
    | no g ↦ let e : i ≡ j = omega arith in subst (λ (k : ℕ). get_or (set m i false) k false ≡ false) e (get_or-set_same m i false false h)
  ]

  pub clear-done : length m ≤ i → (j : ℕ) → get_or m j false ≡ false
  clear-done h j = elim (dec_lt j i) [
    | yes g ↦ f j g
    | no g ↦ get_or-eq_default m false (omega arith)
  ]
