-- Section: the points inside the new nest are the old ones with the index parted into section and element; and a point inside it, joined, is parted
-- to itself.
use mathlib.Core.Path.{◌≡◌, refl, ap, ap₂, ◌∙◌, subst}
use mathlib.Core.Logic.Iff
use mathlib.Core.Logic.{◌↔◌}
use mathlib.Core.List.Memᴰ
use mathlib.Core.List.{List, [], ◌∷◌, ◌++◌, append_assoc}
use Prim.Native.Nat.{ℕ, zero, suc, ◌-◌, ◌<◌}
use native.Mathlib.Omega.{arith}
use lib.IntN.{ℤ, pos, neg_ℤ, ◌+ℤ◌, ◌-ℤ◌, ◌*ℤ◌}
use lib.ListN.{length}
use lib.Signed.{◌≤ℤ◌, ◌<ℤ◌}
use Rattle.lists.specs.Place.{under}
use Rattle.lists.proofs.MembershipLaws.{all_cons, all_map}
use Rattle.integers.specs.Affine.{dot, affine}
use Rattle.integers.proofs.AffineLaws.{dot-zeros, dot-more}
use Rattle.integers.proofs.DivisionLaws.{quotient, rest, rejoin, rest-low, rest-high, joined-quotient, joined-rest}
use Rattle.integers.proofs.RingLaws.{zarith}
use Rattle.integers.proofs.Polynomial.{◌⊕◌, ◌⊖◌, ◌⊗◌, ⊝, #}
use Rattle.integers.proofs.Linear.{lin, ◌⊑◌, ◌≐◌, ◌⟶◌, ◌▹◌⟹◌}
use Rattle.model.specs.Ticket.{Limit, Loop}
use Rattle.model.specs.Points.{value}
use Rattle.model.specs.Inside.{AtLeast, AtMost, Inside}
use Rattle.model.specs.Steps.{sectioned, unsectioned}
use Rattle.model.specs.Limits.{deeper, section_lower, section_upper, element_limit, constant_limit, split_coefficients, section_at}
use Rattle.model.specs.Shape.{Shaped}
use Rattle.model.proofs.Steps.SubscriptLaws.{dot-split}
use Rattle.model.proofs.Steps.InsideLaws.{deep-at, under-inside}

-- ---- the constant limits of E say 0 ≤ E ≤ w − 1

value-constant : (a n : ℕ) (outer : List ℤ) → value (constant_limit a n) outer ≡ pos n
unfolding value affine constant_limit
value-constant a n outer = ap (λ d. pos n +ℤ d) (dot-zeros (suc a) outer) ∙ lin (pos n ∷ []) (λ n. n ⊕ # 0 ≐ n) tt

module _ (a n : ℕ) (outer : List ℤ) (e : ℤ) where
  constant-least : (pos n ≤ℤ e) ↔ AtLeast outer e (constant_limit a n)
  constant-least = rw (value-constant a n outer) (unfold constant_limit in
      (lin (pos n ∷ e ∷ []) (λ n e. n ⊑ e ⟶ n ⊑ # 1 ⊗ e) tt, lin (pos n ∷ e ∷ []) (λ n e. n ⊑ # 1 ⊗ e ⟶ n ⊑ e) tt))

  constant-most : (e ≤ℤ pos n) ↔ AtMost outer e (constant_limit a n)
  constant-most = rw (value-constant a n outer) (unfold constant_limit in
      (lin (pos n ∷ e ∷ []) (λ n e. e ⊑ n ⟶ # 1 ⊗ e ⊑ n) tt, lin (pos n ∷ e ∷ []) (λ n e. # 1 ⊗ e ⊑ n ⟶ e ⊑ n) tt))

-- ---- one limit: x is w S + E

module _ (a w : ℕ) (outer : List ℤ) (len : length outer ≡ a) (S E : ℤ) where
  abbrev x : ℤ
  x = pos w *ℤ S +ℤ E

  value-element : (l : Limit) → length l.coefficients ≡ a
      → value (element_limit w l) (outer ++ (S ∷ [])) ≡ value l outer -ℤ pos l.multiplier *ℤ pos w *ℤ S
  unfolding value affine element_limit
  value-element l e = ap (λ d. l.constant +ℤ d) (dot-more l.coefficients (neg_ℤ (pos l.multiplier *ℤ pos w)) outer S (rw len e))
      ∙ lin (l.constant ∷ dot l.coefficients outer ∷ pos l.multiplier ∷ pos w ∷ S ∷ [])
      (λ c d p w s. c ⊕ (d ⊕ ⊝ (p ⊗ w) ⊗ s) ≐ c ⊕ d ⊖ p ⊗ w ⊗ s) tt

  value-lower : (l : Limit) → value (section_lower w l) outer ≡ value l outer -ℤ pos l.multiplier *ℤ pos (w - 1)
  unfolding value affine section_lower
  value-lower l = lin (l.constant ∷ dot l.coefficients outer ∷ pos l.multiplier ∷ pos (w - 1) ∷ [])
      (λ c d p n. c ⊖ p ⊗ n ⊕ d ≐ c ⊕ d ⊖ p ⊗ n) tt

  abbrev atoms : Limit → List ℤ
  atoms l = value l outer ∷ pos l.multiplier ∷ pos w ∷ S ∷ E ∷ []

  element-least : (l : Limit) → length l.coefficients ≡ a → AtLeast outer x l ↔ AtLeast (outer ++ (S ∷ [])) E (element_limit w l)
  unfolding element_limit
  element-least l e = rw (value-element l e) (
    lin (atoms l) (λ v p w s e. v ⊑ p ⊗ (w ⊗ s ⊕ e) ⟶ v ⊖ p ⊗ w ⊗ s ⊑ p ⊗ e) tt,
    lin (atoms l)
        (λ v p w s e. v ⊖ p ⊗ w ⊗ s ⊑ p ⊗ e ⟶ v ⊑ p ⊗ (w ⊗ s ⊕ e)) tt,
  )

  element-most : (l : Limit) → length l.coefficients ≡ a → AtMost outer x l ↔ AtMost (outer ++ (S ∷ [])) E (element_limit w l)
  unfolding element_limit
  element-most l e = rw (value-element l e) (
    lin (atoms l) (λ v p w s e. p ⊗ (w ⊗ s ⊕ e) ⊑ v ⟶ p ⊗ e ⊑ v ⊖ p ⊗ w ⊗ s) tt,
    lin (atoms l)
        (λ v p w s e. p ⊗ e ⊑ v ⊖ p ⊗ w ⊗ s ⟶ p ⊗ (w ⊗ s ⊕ e) ⊑ v) tt,
  )

  section-least : E ≤ℤ pos (w - 1) → (l : Limit) → AtLeast outer x l → AtLeast outer S (section_lower w l)
  unfolding section_lower
  section-least high l o = rw (value-lower l)
      (lin (value l outer ∷ pos l.multiplier ∷ pos w ∷ pos (w - 1) ∷ S ∷ E ∷ [])
      (λ v p w n s e. v ⊑ p ⊗ (w ⊗ s ⊕ e) ⟶ p ▹ e ⊑ n ⟹ v ⊖ p ⊗ n ⊑ p ⊗ w ⊗ s) tt o (omega zarith) high)

  section-most : pos 0 ≤ℤ E → (l : Limit) → AtMost outer x l → AtMost outer S (section_upper w l)
  unfolding section_upper value
  section-most low l o = lin (atoms l) (λ v p w s e. p ⊗ (w ⊗ s ⊕ e) ⊑ v ⟶ p ▹ # 0 ⊑ e ⟹ p ⊗ w ⊗ s ⊑ v) tt o (omega zarith) low

-- ---- in the nest

module _ (w : ℕ) (h : 0 < w) (a : ℕ) where
  parted : (outer : List ℤ) (S E : ℤ) (y : List ℤ) (N : List Loop) → length outer ≡ a → Shaped a N → pos 0 ≤ℤ E → E ≤ℤ pos (w - 1)
      → Inside N outer ((pos w *ℤ S +ℤ E) ∷ y) ↔ Inside (section_at a w N) outer (S ∷ E ∷ y)
  unfolding section_at
  parted outer S E y [] e s low high = Iff.rfl
  parted outer S E y (L ∷ N) e s low high =
      let x = pos w *ℤ S +ℤ E in
      let q = outer ++ (S ∷ []) in
      let t = all_map (element_limit w) (AtLeast outer x) (AtLeast q E) L.lower (λ l m. element-least a w outer e S E l (s.0.0 l m)) in
      let b = all_map (element_limit w) (AtMost outer x) (AtMost q E) L.upper (λ l m. element-most a w outer e S E l (s.0.1 l m)) in
      let d : Inside N (outer ++ (x ∷ [])) y ↔ Inside (deeper (under a (split_coefficients w)) N) (q ++ (E ∷ [])) y = rw
      (append_assoc outer (S ∷ []) (E ∷ []))
      (deep-at (split_coefficients w) (x ∷ []) (S ∷ E ∷ []) (λ z ds _. dot-split w S E ds z) a outer y N e
      (subst (λ k. Shaped k N) (omega arith) s.1)) in (
        λ o. (
          record {
            low = λ l m. let r = Memᴰ.of_map (section_lower w) L.lower m in subst (AtLeast outer S) r.2
                (section-least a w outer e S E high r.0 (o.0.low r.0 r.1));
            high = λ l m. let r = Memᴰ.of_map (section_upper w) L.upper m in subst (AtMost outer S) r.2
                (section-most a w outer e S E low r.0 (o.0.high r.0 r.1));
          },
          (
            record {
              low = all_cons (AtLeast q E) ((constant-least a 0 q E).0 low) (t.0 o.0.low);
              high = all_cons (AtMost q E) ((constant-most a (w - 1) q E).0 high) (b.0 o.0.high);
            },
            d.0 o.1,
          ),
        ),
        λ o. (
          record { low = t.1 (λ l m. o.1.0.low l (Memᴰ.tail m)); high = b.1 (λ l m. o.1.0.high l (Memᴰ.tail m)) },
          d.1
              o.1.1,
        ),
      )

  section-at : (outer y : List ℤ) (N : List Loop) → length outer ≡ a → Shaped a N → Inside N outer y ↔ Inside (section_at a w N) outer (sectioned w y)
  unfolding sectioned
  section-at outer [] [] e s = unfold section_at in Iff.rfl
  section-at outer [] (L ∷ N) e s = unfold section_at in Iff.rfl
  section-at outer (x ∷ y) N e s =
      let positive : pos 0 <ℤ pos w = omega zarith in
      let below = rest-high (pos w) positive x in
      subst (λ z. Inside N outer (z ∷ y) ↔ Inside (section_at a w N) outer (quotient (pos w) x ∷ rest (pos w) x ∷ y)) (rejoin (pos w) x)
      (parted outer (quotient (pos w) x) (rest (pos w) x) y N e s (rest-low (pos w) positive x) (omega zarith))

  -- ---- a point inside, joined and parted again

  sectioned-unsectioned : (outer q : List ℤ) (N : List Loop) → Inside (section_at a w N) outer q → sectioned w (unsectioned w q) ≡ q
  unfolding section_at sectioned unsectioned
  sectioned-unsectioned outer [] N o = refl
  sectioned-unsectioned outer (x ∷ q) [] o = absurd o
  sectioned-unsectioned outer (S ∷ []) (L ∷ N) o = absurd o.1
  sectioned-unsectioned outer (S ∷ E ∷ q) (L ∷ N) o =
      let positive : pos 0 <ℤ pos w = omega zarith in
      let low = (constant-least a 0 (outer ++ (S ∷ [])) E).1 (o.1.0.low (constant_limit a 0) (Memᴰ.head refl)) in
      let high = (constant-most a (w - 1) (outer ++ (S ∷ [])) E).1 (o.1.0.high (constant_limit a (w - 1)) (Memᴰ.head refl)) in
      let below : E <ℤ pos w = omega zarith in
      ap₂ (λ s e. s ∷ e ∷ q) (joined-quotient (pos w) positive S E low below) (joined-rest (pos w) positive S E low below)

  pub section-undone : (n : ℕ) (outer q : List ℤ) (N : List Loop) → Inside (under n (section_at a w) N) outer q
      → under n (sectioned w) (under n (unsectioned w) q) ≡ q
  unfolding under
  section-undone zero outer q N o = sectioned-unsectioned outer q N o
  section-undone (suc n) outer [] N o = refl
  section-undone (suc n) outer (x ∷ q) [] o = absurd o
  section-undone (suc n) outer (x ∷ q) (L ∷ N) o = ap (x ∷◌) (section-undone n (outer ++ (x ∷ [])) q N o.1)

pub section-inside : (a w : ℕ) → 0 < w → (y : List ℤ) (N : List Loop) → Shaped 0 N
    → Inside N [] y ↔ Inside (under a (section_at a w) N) [] (under a (sectioned w) y)
section-inside a w h y N s = under-inside (sectioned w) (section_at a w) a (section-at w h a) y N s
