-- Skew: the points inside the new nest are the old ones with the index of loop a, or its negative, added to that of a loop inside it.
use mathlib.Core.Path.{◌≡◌, refl, sym, ap, ◌∙◌, subst}
use mathlib.Core.Logic.Iff
use mathlib.Core.Logic.{◌↔◌}
use mathlib.Core.List.{List, [], ◌∷◌, ◌++◌, append_assoc, append-nil}
use Prim.Native.Nat.{ℕ, suc, ◌+◌, ◌<◌}
use native.Mathlib.Omega.{arith}
use lib.IntN.{ℤ, pos, ◌+ℤ◌, ◌*ℤ◌}
use lib.ListN.{length, length-append}
use Rattle.lists.specs.Place.{under, on_head}
use Rattle.lists.proofs.MembershipLaws.{all_map}
use Rattle.lists.proofs.PlaceLaws.{under-append}
use Rattle.integers.specs.Affine.{dot, affine}
use Rattle.integers.proofs.AffineLaws.{dot-coefficient}
use Rattle.integers.proofs.Polynomial.{◌⊕◌, ◌⊗◌}
use Rattle.integers.proofs.Linear.{lin, ◌⊑◌, ◌≐◌, ◌⟶◌}
use Rattle.model.specs.Ticket.{Limit, Loop}
use Rattle.model.specs.Points.{value}
use Rattle.model.specs.Inside.{AtLeast, AtMost, Inside}
use Rattle.model.specs.Steps.{skewed}
use Rattle.model.specs.Limits.{on_limits, skew_coefficients, skew_limit, skew_inner, skew_at}
use Rattle.model.specs.Shape.{Shaped}
use Rattle.model.proofs.Steps.SubscriptLaws.{factor-mul, dot-skewed}
use Rattle.model.proofs.Steps.InsideLaws.{limits-iff, deep-at, under-inside, under-inside-from}

-- ---- sums of products

raised : (mid : List ℤ) (v t : ℤ) (z : List ℤ) → under (length mid) (on_head (λ y. y +ℤ t)) (mid ++ (v ∷ []) ++ z) ≡ mid ++ ((v +ℤ t) ∷ []) ++ z
unfolding on_head
raised mid v t z = ap (under (length mid) (on_head (λ y. y +ℤ t))) (append_assoc mid (v ∷ []) z) ∙ under-append (on_head (λ y. y +ℤ t)) mid (v ∷ z)
    ∙ sym (append_assoc mid ((v +ℤ t) ∷ []) z)

-- the indices x, mid, v and z become x, mid, v + c x and z
dot-across : (c : ℤ) (x v : ℤ) (mid z ds : List ℤ) → length ds ≡ length ((x ∷ (mid ++ (v ∷ []))) ++ z)
    → dot (skew_coefficients (length mid) c ds) ((x ∷ (mid ++ ((v +ℤ (c *ℤ x)) ∷ []))) ++ z) ≡ dot ds ((x ∷ (mid ++ (v ∷ []))) ++ z)
unfolding skewed
dot-across c x v mid z ds e = ap (λ q. dot (skew_coefficients (length mid) c ds) (x ∷ q)) (sym (raised mid v (c *ℤ x) z))
    ∙ dot-skewed (length mid) c ds (x ∷ (mid ++ (v ∷ []) ++ z)) e

-- ---- the loop that is skewed, with indices outer, x and mid outside it

module _ (c : ℤ) (outer : List ℤ) (x : ℤ) (mid : List ℤ) (v : ℤ) where
  abbrev all : List ℤ
  all = outer ++ x ∷ mid

  value-skewed : (l : Limit) → length outer < length l.coefficients
      → value (skew_limit (length outer) c l) all ≡ value l all +ℤ pos l.multiplier *ℤ (c *ℤ x)
  unfolding value affine skew_limit
  value-skewed l h =
      ap (λ r. l.constant +ℤ r) (dot-coefficient outer x (c *ℤ (pos l.multiplier)) mid l.coefficients h
      ∙ ap (λ r. dot l.coefficients all +ℤ r) (factor-mul c (pos l.multiplier) x))
      ∙ lin (l.constant ∷ dot l.coefficients all ∷ (pos l.multiplier *ℤ (c *ℤ x)) ∷ []) (λ c d s. c ⊕ (d ⊕ s) ≐ c ⊕ d ⊕ s) tt

  abbrev atoms : Limit → List ℤ
  atoms l = value l all ∷ pos l.multiplier ∷ v ∷ (c *ℤ x) ∷ []

  least-skewed : (l : Limit) → length outer < length l.coefficients → AtLeast all v l ↔ AtLeast all (v +ℤ (c *ℤ x)) (skew_limit (length outer) c l)
  unfolding skew_limit
  least-skewed l h = rw (value-skewed l h) (
    lin (atoms l) (λ e p v s. e ⊑ p ⊗ v ⟶ e ⊕ p ⊗ s ⊑ p ⊗ (v ⊕ s)) tt,
    lin (atoms l)
        (λ e p v s. e ⊕ p ⊗ s ⊑ p ⊗ (v ⊕ s) ⟶ e ⊑ p ⊗ v) tt,
  )

  most-skewed : (l : Limit) → length outer < length l.coefficients → AtMost all v l ↔ AtMost all (v +ℤ (c *ℤ x)) (skew_limit (length outer) c l)
  unfolding skew_limit
  most-skewed l h = rw (value-skewed l h) (
    lin (atoms l) (λ e p v s. p ⊗ v ⊑ e ⟶ p ⊗ (v ⊕ s) ⊑ e ⊕ p ⊗ s) tt,
    lin (atoms l)
        (λ e p v s. p ⊗ (v ⊕ s) ⊑ e ⊕ p ⊗ s ⟶ p ⊗ v ⊑ e) tt,
  )

-- ---- in the nest

skew-inner : (c : ℤ) (outer : List ℤ) (x : ℤ) (mid y : List ℤ) (N : List Loop) → Shaped (length outer + suc (length mid)) N
    → Inside N (outer ++ x ∷ mid) y ↔ Inside (skew_inner (length outer) (length mid) c N) (outer ++ x ∷ mid) (on_head (λ v. v +ℤ (c *ℤ x)) y)
unfolding skew_inner on_head on_limits
skew-inner c outer x mid [] [] s = Iff.rfl
skew-inner c outer x mid (v ∷ y) [] s = Iff.rfl
skew-inner c outer x mid [] (L ∷ N) s = Iff.rfl
skew-inner c outer x mid (v ∷ y) (L ∷ N) s =
    let q = outer ++ x ∷ mid in
    let w = v +ℤ (c *ℤ x) in
    let n : length (x ∷ (mid ++ (v ∷ []))) ≡ suc (suc (length mid)) = simp length-append (omega arith) in
    Iff.and
    (limits-iff
    (all_map (skew_limit (length outer) c) (AtLeast q v) (AtLeast q w) L.lower
    (λ l m. least-skewed c outer x mid v l (let z = s.0.0 l m in omega arith)))
    (all_map (skew_limit (length outer) c) (AtMost q v) (AtMost q w) L.upper (λ l m. most-skewed c outer x mid v l
    (let z = s.0.1 l m in omega arith))))
    (rw (append_assoc outer (x ∷ mid) (v ∷ []), append_assoc outer (x ∷ mid) (w ∷ []))
    (deep-at (skew_coefficients (length mid) c) (x ∷ (mid ++ (v ∷ []))) (x ∷ (mid ++ (w ∷ []))) (dot-across c x v mid) (length outer) outer y N refl
    (subst (λ k. Shaped k N) (omega arith) s.1)))

skew-at : (d : ℕ) (c : ℤ) (a : ℕ) (outer y : List ℤ) (N : List Loop) → length outer ≡ a → Shaped a N
    → Inside N outer y ↔ Inside (skew_at a d c N) outer (skewed d c y)
unfolding skew_at skewed
skew-at d c a outer [] [] e s = Iff.rfl
skew-at d c a outer (x ∷ y) [] e s = Iff.rfl
skew-at d c a outer [] (L ∷ N) e s = Iff.rfl
skew-at d c a outer (x ∷ y) (L ∷ N) e s =
    let base = outer ++ (x ∷ []) in
    let len : length base ≡ suc a = simp length-append (omega (arith, e)) in
    Iff.and Iff.rfl (rw (append-nil base) at (under-inside-from (on_head (λ v. v +ℤ (c *ℤ x))) (skew_inner a d c) base d
    (λ z y N f t. rw (append_assoc outer (x ∷ []) z, ← e, ← f) (skew-inner c outer x z y N (subst (λ k. Shaped k N) (omega arith) t)))
    d [] y N (omega arith) (subst (λ k. Shaped k N) (omega arith) s.1)))

pub skew-inside : (a d : ℕ) (c : ℤ) (y : List ℤ) (N : List Loop) → Shaped 0 N
    → Inside N [] y ↔ Inside (under a (skew_at a d c) N) [] (under a (skewed d c) y)
skew-inside a d c y N s = under-inside (skewed d c) (skew_at a d c) a (skew-at d c a) y N s
