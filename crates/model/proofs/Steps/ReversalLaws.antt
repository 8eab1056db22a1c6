-- Reversal: the points inside the new nest are the old ones with the index of the loop negated.
use mathlib.Core.Path.{◌≡◌, ap, ◌∙◌, subst}
use mathlib.Core.Logic.Iff
use mathlib.Core.Logic.{◌↔◌}
use mathlib.Core.List.{List, [], ◌∷◌}
use Prim.Native.Nat.{ℕ}
use native.Mathlib.Omega.{arith}
use lib.IntN.{ℤ, pos, neg_ℤ, ◌+ℤ◌}
use lib.ListN.{length}
use Rattle.lists.specs.Place.{under, on_head}
use Rattle.lists.proofs.MembershipLaws.{all_map}
use Rattle.integers.specs.Affine.{dot, affine}
use Rattle.integers.proofs.AffineLaws.{dot-neg}
use Rattle.integers.proofs.Polynomial.{◌⊕◌, ◌⊗◌, ⊝}
use Rattle.integers.proofs.Linear.{lin, ◌⊑◌, ◌≐◌, ◌⟶◌}
use Rattle.model.specs.Ticket.{Limit, Loop}
use Rattle.model.specs.Points.{value}
use Rattle.model.specs.Inside.{AtLeast, AtMost, Inside}
use Rattle.model.specs.Limits.{negated, reverse_at}
use Rattle.model.specs.Shape.{Shaped}
use Rattle.model.proofs.Steps.SubscriptLaws.{dot-reversed}
use Rattle.model.proofs.Steps.InsideLaws.{deep-at, under-inside}

value-negated : (l : Limit) (outer : List ℤ) → value (negated l) outer ≡ neg_ℤ (value l outer)
unfolding value affine negated
value-negated l outer = ap (λ d. neg_ℤ l.constant +ℤ d) (dot-neg l.coefficients outer)
    ∙ lin (l.constant ∷ dot l.coefficients outer ∷ []) (λ c d. ⊝ c ⊕ ⊝ d ≐ ⊝ (c ⊕ d)) tt

module _ (outer : List ℤ) (i : ℤ) (l : Limit) where
  least-negated : AtLeast outer i l ↔ AtMost outer (neg_ℤ i) (negated l)
  unfolding negated
  least-negated = rw (value-negated l outer) (
    lin (pos l.multiplier ∷ value l outer ∷ i ∷ []) (λ p v i. v ⊑ p ⊗ i ⟶ p ⊗ ⊝ i ⊑ ⊝ v) tt,
    lin (pos l.multiplier ∷ value l outer ∷ i ∷ []) (λ p v i. p ⊗ ⊝ i ⊑ ⊝ v ⟶ v ⊑ p ⊗ i) tt,
  )

  most-negated : AtMost outer i l ↔ AtLeast outer (neg_ℤ i) (negated l)
  unfolding negated
  most-negated = rw (value-negated l outer) (
    lin (pos l.multiplier ∷ value l outer ∷ i ∷ []) (λ p v i. p ⊗ i ⊑ v ⟶ ⊝ v ⊑ p ⊗ ⊝ i) tt,
    lin (pos l.multiplier ∷ value l outer ∷ i ∷ []) (λ p v i. ⊝ v ⊑ p ⊗ ⊝ i ⟶ p ⊗ i ⊑ v) tt,
  )

reversal-at : (a : ℕ) (outer y : List ℤ) (N : List Loop) → length outer ≡ a → Shaped a N
    → Inside N outer y ↔ Inside (reverse_at a N) outer (on_head neg_ℤ y)
unfolding reverse_at on_head
reversal-at a outer [] [] e s = Iff.rfl
reversal-at a outer (i ∷ y) [] e s = Iff.rfl
reversal-at a outer [] (L ∷ N) e s = Iff.rfl
reversal-at a outer (i ∷ y) (L ∷ N) e s =
    let b = all_map negated (AtMost outer i) (AtLeast outer (neg_ℤ i)) L.upper (λ l m. most-negated outer i l) in
    let t = all_map negated (AtLeast outer i) (AtMost outer (neg_ℤ i)) L.lower (λ l m. least-negated outer i l) in
    Iff.and (λ o. record { low = b.0 o.high; high = t.0 o.low }, λ o. record { low = t.1 o.high; high = b.1 o.low })
    (deep-at (on_head neg_ℤ) (i ∷ []) (neg_ℤ i ∷ []) (λ z ds _. dot-reversed ds (i ∷ z)) a outer y N e (subst (λ k. Shaped k N) (omega arith) s.1))

pub reversal-inside : (a : ℕ) (y : List ℤ) (N : List Loop) → Shaped 0 N
    → Inside N [] y ↔ Inside (under a (reverse_at a) N) [] (under a (on_head neg_ℤ) y)
reversal-inside a y N s = under-inside (on_head neg_ℤ) (reverse_at a) a (reversal-at a) y N s
