-- The order of points, by rising first index, then second and so on: what it says of the first indices; irreflexive, transitive, asymmetric;
-- total on points of one length; and vectors that point backwards.
use mathlib.Core.Path.{◌≡◌, refl, sym, ap, ap₂, ◌∙◌}
use mathlib.Core.Bool.{true, false}
use mathlib.Core.Logic.{◌⊎◌, inl, inr, ⊎_elim}
use mathlib.Core.List.{List, [], ◌∷◌}
use native.Mathlib.Omega.{arith}
use lib.Dec.{T}
use lib.IntN.{ℤ}
use lib.ListN.{length}
use lib.Signed.{◌<ℤ◌}
use Rattle.integers.specs.Sign.{Sign, less, equal, greater, sign, turned}
use Rattle.integers.proofs.RingLaws.{zarith}
use Rattle.integers.proofs.SignLaws.{Means, sign-means, means-sign, sign-turned}
use Rattle.model.specs.Directions.{signs, by_sign, backwards, earlier}
use Rattle.model.specs.Inside.{Earlier}

module _ (x y : ℤ) (p q : List ℤ) where
  pub earlier-cases : Earlier (x ∷ p) (y ∷ q) → (x <ℤ y) ⊎ ((x ≡ y) × Earlier p q)
  unfolding earlier
  earlier-cases h = go (sign x y) (sign-means x y) h
    where
      go : (s : Sign) → Means s x y → T (by_sign s true (earlier p q) false) → (x <ℤ y) ⊎ ((x ≡ y) × Earlier p q)
      go less m h = inl m
      go equal m h = inr (m, h)
      go greater m h = absurd h

  pub earlier-first : x <ℤ y → Earlier (x ∷ p) (y ∷ q)
  unfolding earlier
  earlier-first h = rw (means-sign less x y h) tt

  pub earlier-rest : x ≡ y → Earlier p q → Earlier (x ∷ p) (y ∷ q)
  unfolding earlier
  earlier-rest e h = rw (means-sign equal x y e) h

pub earlier-irreflexive : (p : List ℤ) → Earlier p p → ⊥
unfolding earlier
earlier-irreflexive [] h = h
earlier-irreflexive (x ∷ p) h = ⊎_elim (λ l. omega zarith) (λ r. earlier-irreflexive p r.1) (earlier-cases x x p p h)

pub earlier-transitive : (p q r : List ℤ) → Earlier p q → Earlier q r → Earlier p r
unfolding earlier
earlier-transitive [] q r h k = absurd h
earlier-transitive (x ∷ p) [] r h k = absurd h
earlier-transitive (x ∷ p) (y ∷ q) [] h k = absurd k
earlier-transitive (x ∷ p) (y ∷ q) (z ∷ r) h k = ⊎_elim
    (λ l. earlier-first x z p r (⊎_elim (λ m. omega zarith) (λ m. let e = m.0 in omega zarith) (earlier-cases y z q r k)))
    (λ l. ⊎_elim (λ m. let e = l.0 in earlier-first x z p r (omega zarith)) (λ m. earlier-rest x z p r (l.0 ∙ m.0)
    (earlier-transitive p q r l.1 m.1)) (earlier-cases y z q r k))
    (earlier-cases x y p q h)

pub earlier-asymmetric : (p q : List ℤ) → Earlier p q → Earlier q p → ⊥
earlier-asymmetric p q h k = earlier-irreflexive p (earlier-transitive p q p h k)

pub earlier-total : (p q : List ℤ) → length p ≡ length q → (p ≡ q) ⊎ (Earlier p q ⊎ Earlier q p)
earlier-total [] [] e = inl refl
earlier-total [] (y ∷ q) e = absurd (omega arith)
earlier-total (x ∷ p) [] e = absurd (omega arith)
earlier-total (x ∷ p) (y ∷ q) e = go (sign x y) (sign-means x y) (earlier-total p q (omega arith))
  where
    go : (s : Sign) → Means s x y → (p ≡ q) ⊎ (Earlier p q ⊎ Earlier q p) → (x ∷ p ≡ y ∷ q) ⊎ (Earlier (x ∷ p) (y ∷ q) ⊎ Earlier (y ∷ q) (x ∷ p))
    go less m r = inr (inl (earlier-first x y p q m))
    go equal m r = ⊎_elim (λ f. inl (ap₂ ◌∷◌ m f)) (λ c. inr (⊎_elim (λ h. inl (earlier-rest x y p q m h))
        (λ h. inr (earlier-rest y x q p (sym m) h)) c)) r
    go greater m r = inr (inr (earlier-first y x q p m))

-- a vector points backwards exactly if the second point comes first
pub backwards-earlier : (p q : List ℤ) → backwards (signs p q) ≡ earlier q p
unfolding backwards signs earlier
backwards-earlier [] [] = refl
backwards-earlier [] (y ∷ q) = refl
backwards-earlier (x ∷ p) [] = refl
backwards-earlier (x ∷ p) (y ∷ q) = go (backwards-earlier p q) (sign x y) ∙ ap (λ s. by_sign s true (earlier q p) false) (sym (sign-turned x y))
  where
    go : backwards (signs p q) ≡ earlier q p → (s : Sign) → by_sign s false (backwards (signs p q)) true ≡ by_sign (turned s) true (earlier q p) false
    go rest less = refl
    go rest equal = rest
    go rest greater = refl
