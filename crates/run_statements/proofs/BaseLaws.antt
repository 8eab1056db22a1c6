-- Where the arrays begin, one more at a time.
use Rattle.std.proofs.Common.{◌≡◌, ℕ, ◌+◌, ◌<◌, ◌≤◌, List, length, get_or, set, sym, ◌∙◌, subst, ⊎_elim, eq-or-lt_of_le, arith, get_or-set_other, get_or-set_same}
use Rattle.model.specs.Store.{base}
use Rattle.nest_flat.specs.Layout.{arrays_of}
use Rattle.nest_elements.specs.Places.{BaseIn, TotalIn}
use Rattle.run_statements.specs.Flat.{BasesAre}

pub base-in : {a : List ℕ} {n : ℕ} → TotalIn a n → (i : ℕ) → i < n → BaseIn a i
base-in t i h = record { before = λ j l. t.each j (omega arith); fits = t.fits }

pub one-base : (a bases : List ℕ) (i b : ℕ) → i < length bases → BasesAre a i bases → b ≡ base (arrays_of a) i → BasesAre a (i + 1) (set bases i b)
one-base a bases i b l f e j h = ⊎_elim
    (λ (q : j ≡ i). subst (λ (k : ℕ). get_or (set bases i b) k 0 ≡ base (arrays_of a) k) (sym q) (get_or-set_same bases i b 0 l ∙ e))
    (λ (q : j < i). get_or-set_other bases i j b 0 (λ (z : j ≡ i). absurd (omega arith)) ∙ f j q)
    (eq-or-lt_of_le below)
  where
    below : j ≤ i
    below = omega arith

-- no array is left
pub all-bases : (a bases : List ℕ) (n i : ℕ) → n ≤ i → BasesAre a i bases → BasesAre a n bases
all-bases a bases n i h f j l = f j (omega arith)
