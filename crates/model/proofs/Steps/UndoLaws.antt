-- A step and its undoing: a point taken forward comes back, and a point inside the new nest, undone, goes forward to itself.
use mathlib.Core.Path.{◌≡◌, refl, ap, ◌∙◌}
use mathlib.Core.List.{List, [], ◌∷◌}
use Prim.Native.Nat.{ℕ}
use lib.IntN.{ℤ, pos, neg_ℤ, neg_ℤ-neg_ℤ, ◌+ℤ◌, ◌-ℤ◌, +ℤ-neg_ℤ_cancel, -ℤ-+ℤ_cancel, ◌*ℤ◌}
use Rattle.lists.specs.Place.{on_head, swapped}
use Rattle.lists.proofs.PlaceLaws.{under-inverse, on_head-inverse, swapped-swapped}
use Rattle.lists.proofs.SwapLaws.{back-swap_all, swap_all-back}
use Rattle.integers.proofs.DivisionLaws.{rejoin}
use Rattle.model.specs.Ticket.{Loop, Step, exchange, reversal, skew, section, circulation}
use Rattle.model.specs.Inside.{Inside}
use Rattle.model.specs.Steps.{skewed, unskewed, sectioned, unsectioned, chain, forward, undo, forward_all, undo_all}
use Rattle.model.specs.Limits.{loops_after}
use Rattle.model.specs.Shape.{Proper}
use Rattle.model.proofs.Steps.SectionLaws.{section-undone}

-- ---- forward, then back

unskewed-skewed : (d : ℕ) (c : ℤ) (p : List ℤ) → unskewed d c (skewed d c p) ≡ p
unfolding skewed unskewed
unskewed-skewed d c [] = refl
unskewed-skewed d c (x ∷ p) = ap (x ∷◌) (under-inverse (on_head (λ y. y -ℤ (c *ℤ x))) (on_head (λ y. y +ℤ (c *ℤ x)))
    (on_head-inverse (λ y. y -ℤ (c *ℤ x)) (λ y. y +ℤ (c *ℤ x)) (λ y. +ℤ-neg_ℤ_cancel y (c *ℤ x))) d p)

unsectioned-sectioned : (w : ℕ) (p : List ℤ) → unsectioned w (sectioned w p) ≡ p
unfolding sectioned unsectioned
unsectioned-sectioned w [] = refl
unsectioned-sectioned w (x ∷ p) = ap (◌∷ p) (rejoin (pos w) x)

pub undo-forward : (t : Step) (p : List ℤ) → undo t (forward t p) ≡ p
unfolding undo forward
undo-forward (exchange a) p = under-inverse swapped swapped swapped-swapped a p
undo-forward (reversal a) p = under-inverse (on_head neg_ℤ) (on_head neg_ℤ) (on_head-inverse neg_ℤ neg_ℤ neg_ℤ-neg_ℤ) a p
undo-forward (skew a d c) p = under-inverse (unskewed d c) (skewed d c) (unskewed-skewed d c) a p
undo-forward (section a w) p = under-inverse (unsectioned w) (sectioned w) (unsectioned-sectioned w) a p
undo-forward (circulation a b) p = back-swap_all (chain a b) p

pub undo-forward_all : (ts : List Step) (p : List ℤ) → undo_all ts (forward_all ts p) ≡ p
unfolding undo_all forward_all
undo-forward_all [] p = refl
undo-forward_all (t ∷ ts) p = ap (undo t) (undo-forward_all ts (forward t p)) ∙ undo-forward t p

-- ---- back, then forward

skewed-unskewed : (d : ℕ) (c : ℤ) (p : List ℤ) → skewed d c (unskewed d c p) ≡ p
unfolding skewed unskewed
skewed-unskewed d c [] = refl
skewed-unskewed d c (x ∷ p) = ap (x ∷◌) (under-inverse (on_head (λ y. y +ℤ (c *ℤ x))) (on_head (λ y. y -ℤ (c *ℤ x)))
    (on_head-inverse (λ y. y +ℤ (c *ℤ x)) (λ y. y -ℤ (c *ℤ x)) (λ y. -ℤ-+ℤ_cancel y (c *ℤ x))) d p)

pub forward-undo : (t : Step) → Proper t → (N : List Loop) (q : List ℤ) → Inside (loops_after t N) [] q → forward t (undo t q) ≡ q
unfolding forward undo loops_after
forward-undo (exchange a) h N q o = under-inverse swapped swapped swapped-swapped a q
forward-undo (reversal a) h N q o = under-inverse (on_head neg_ℤ) (on_head neg_ℤ) (on_head-inverse neg_ℤ neg_ℤ neg_ℤ-neg_ℤ) a q
forward-undo (skew a d c) h N q o = under-inverse (skewed d c) (unskewed d c) (skewed-unskewed d c) a q
forward-undo (section a w) h N q o = section-undone w h a a [] q N o
forward-undo (circulation a b) h N q o = swap_all-back (chain a b) q
