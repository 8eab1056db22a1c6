-- The difference of two terms, c x − d y, at indices from lo to hi with a known order: it is at least the smallest of its values at the
-- corners of that region, and at most the largest. A value at an end of an interval, first of y and then of x.
use mathlib.Core.Logic.{⊎_elim}
use mathlib.Core.List.{[], ◌∷◌}
use lib.IntN.{ℤ, pos, neg_ℤ, ◌+ℤ◌, ◌-ℤ◌, ◌*ℤ◌}
use lib.Signed.{◌≤ℤ◌, ◌<ℤ◌}
use Rattle.integers.proofs.RingLaws.{≤ℤ-or-<ℤ}
use Rattle.integers.proofs.Polynomial.{◌⊕◌, ◌⊖◌, ◌⊗◌, ⊝, #}
use Rattle.integers.proofs.Linear.{lin, ◌⊑◌, ◌⊏◌, ◌⟶◌, ◌▹◌⟹◌}

below : {a : ℤ} → a <ℤ pos 0 → pos 0 ≤ℤ (pos 0 -ℤ a)
below {a} h = lin (a ∷ []) (λ a. a ⊏ # 0 ⟶ # 0 ⊑ # 0 ⊖ a) tt h

-- ---- x = y

module _ (c d lo hi x : ℤ) (a : lo ≤ℤ x) (b : x ≤ℤ hi) where
  pub level-least : (l : ℤ) → l ≤ℤ (c *ℤ lo -ℤ d *ℤ lo) → l ≤ℤ (c *ℤ hi -ℤ d *ℤ hi) → l ≤ℤ (c *ℤ x -ℤ d *ℤ x)
  level-least l f g = ⊎_elim
      (λ s. lin (c ∷ d ∷ lo ∷ x ∷ l ∷ []) (λ c d lo x l. c ⊖ d ▹ lo ⊑ x ⟹ l ⊑ c ⊗ lo ⊖ d ⊗ lo ⟶ l ⊑ c ⊗ x ⊖ d ⊗ x) tt
      (lin (c ∷ d ∷ []) (λ c d. d ⊑ c ⟶ # 0 ⊑ c ⊖ d) tt s) a f)
      (λ s. lin (c ∷ d ∷ hi ∷ x ∷ l ∷ []) (λ c d hi x l. d ⊖ c ▹ x ⊑ hi ⟹ l ⊑ c ⊗ hi ⊖ d ⊗ hi ⟶ l ⊑ c ⊗ x ⊖ d ⊗ x) tt
      (lin (c ∷ d ∷ []) (λ c d. c ⊏ d ⟶ # 0 ⊑ d ⊖ c) tt s) b g)
      (≤ℤ-or-<ℤ d c)

-- ---- x < y

module _ (c d lo hi x y : ℤ) (a : lo ≤ℤ x) (b : x <ℤ y) (e : y ≤ℤ hi) where
  pub rising-least : (l : ℤ) → l ≤ℤ (c *ℤ lo -ℤ d *ℤ (lo +ℤ pos 1)) → l ≤ℤ (c *ℤ lo -ℤ d *ℤ hi) → l ≤ℤ (c *ℤ (hi -ℤ pos 1) -ℤ d *ℤ hi)
      → l ≤ℤ (c *ℤ x -ℤ d *ℤ y)
  rising-least l f g h = ⊎_elim
      (λ s. ⊎_elim
      (λ t. lin (c ∷ d ∷ lo ∷ hi ∷ x ∷ y ∷ l ∷ []) (λ c d lo hi x y l. d ▹ y ⊑ hi ⟹ c ▹ lo ⊑ x ⟹ l ⊑ c ⊗ lo ⊖ d ⊗ hi ⟶ l ⊑ c ⊗ x ⊖ d ⊗ y) tt s e t a
      g)
      (λ t. lin (c ∷ d ∷ hi ∷ x ∷ y ∷ l ∷ []) (λ c d hi x y l. d ▹ y ⊑ hi ⟹ # 0 ⊖ c ▹ x ⊑ hi ⊖ # 1 ⟹ l ⊑ c ⊗ (hi ⊖ # 1) ⊖ d ⊗ hi ⟶ l ⊑ c ⊗ x ⊖ d ⊗
      y) tt s e (below t) last h)
      (≤ℤ-or-<ℤ (pos 0) c))
      (λ s. ⊎_elim
      (λ t. lin (c ∷ d ∷ lo ∷ x ∷ y ∷ l ∷ []) (λ c d lo x y l. # 0 ⊖ d ▹ x ⊕ # 1 ⊑ y ⟹ c ⊖ d ▹ lo ⊑ x ⟹ l ⊑ c ⊗ lo ⊖ d ⊗ (lo ⊕ # 1) ⟶ l ⊑ c ⊗ x ⊖ d
      ⊗ y) tt (below s) next (lin (c ∷ d ∷ []) (λ c d. d ⊑ c ⟶ # 0 ⊑ c ⊖ d) tt t) a f)
      (λ t. lin (c ∷ d ∷ hi ∷ x ∷ y ∷ l ∷ []) (λ c d hi x y l. # 0 ⊖ d ▹ x ⊕ # 1 ⊑ y ⟹ d ⊖ c ▹ x ⊑ hi ⊖ # 1 ⟹ l ⊑ c ⊗ (hi ⊖ # 1) ⊖ d ⊗ hi ⟶ l ⊑ c ⊗
      x ⊖ d ⊗ y) tt (below s) next (lin (c ∷ d ∷ []) (λ c d. c ⊏ d ⟶ # 0 ⊑ d ⊖ c) tt t) last h)
      (≤ℤ-or-<ℤ d c))
      (≤ℤ-or-<ℤ (pos 0) d)
    where
      next : (x +ℤ pos 1) ≤ℤ y
      next = lin (x ∷ y ∷ []) (λ x y. x ⊏ y ⟶ x ⊕ # 1 ⊑ y) tt b

      last : x ≤ℤ (hi -ℤ pos 1)
      last = lin (x ∷ y ∷ hi ∷ []) (λ x y hi. x ⊏ y ⟶ y ⊑ hi ⟶ x ⊑ hi ⊖ # 1) tt b e

-- ---- the greatest is the least of the negatives

negated : (u v s t g : ℤ) → (u *ℤ s -ℤ v *ℤ t) ≤ℤ g → neg_ℤ g ≤ℤ (neg_ℤ u *ℤ s -ℤ neg_ℤ v *ℤ t)
negated u v s t g h = lin (u ∷ v ∷ s ∷ t ∷ g ∷ []) (λ u v s t g. u ⊗ s ⊖ v ⊗ t ⊑ g ⟶ ⊝ g ⊑ ⊝ u ⊗ s ⊖ ⊝ v ⊗ t) tt h

restored : (u v s t g : ℤ) → neg_ℤ g ≤ℤ (neg_ℤ u *ℤ s -ℤ neg_ℤ v *ℤ t) → (u *ℤ s -ℤ v *ℤ t) ≤ℤ g
restored u v s t g h = lin (u ∷ v ∷ s ∷ t ∷ g ∷ []) (λ u v s t g. ⊝ g ⊑ ⊝ u ⊗ s ⊖ ⊝ v ⊗ t ⟶ u ⊗ s ⊖ v ⊗ t ⊑ g) tt h

pub level-greatest : (c d lo hi x : ℤ) → lo ≤ℤ x → x ≤ℤ hi → (g : ℤ) → (c *ℤ lo -ℤ d *ℤ lo) ≤ℤ g → (c *ℤ hi -ℤ d *ℤ hi) ≤ℤ g → (c *ℤ x -ℤ d *ℤ x) ≤ℤ g
level-greatest c d lo hi x a b g f h = restored c d x x g (level-least (neg_ℤ c) (neg_ℤ d) lo hi x a b (neg_ℤ g) (negated c d lo lo g f)
    (negated c d hi hi g h))

pub rising-greatest : (c d lo hi x y : ℤ) → lo ≤ℤ x → x <ℤ y → y ≤ℤ hi
    → (g : ℤ) → (c *ℤ lo -ℤ d *ℤ (lo +ℤ pos 1)) ≤ℤ g → (c *ℤ lo -ℤ d *ℤ hi) ≤ℤ g → (c *ℤ (hi -ℤ pos 1) -ℤ d *ℤ hi) ≤ℤ g → (c *ℤ x -ℤ d *ℤ y) ≤ℤ g
rising-greatest c d lo hi x y a b e g f h k = restored c d x y g
    (rising-least (neg_ℤ c) (neg_ℤ d) lo hi x y a b e (neg_ℤ g) (negated c d lo (lo +ℤ pos 1) g f) (negated c d lo hi g h)
    (negated c d (hi -ℤ pos 1) hi g k))
