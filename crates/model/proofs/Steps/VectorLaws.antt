-- Vectors after a step: the signs between two points after it are among those that its table gives for the signs before, and are the only one
-- after an exchange, a reversal or a circulation. In order: signs of sums and of parts; a change at a place; the steps.
use mathlib.Core.Path.{◌≡◌, refl, sym, ap, ap₂, ◌∙◌, subst}
use Rattle.integers.proofs.Linear.{lin, ◌≐◌, ◌⊏◌, ◌⟶◌}
use Rattle.integers.proofs.Polynomial.{◌⊗◌, ⊝, #}
use Rattle.integers.proofs.OrderLaws.{mul-<}
use mathlib.Core.Logic.{⊎_elim}
use mathlib.Core.List.Memᴰ
use mathlib.Core.List.{List, [], ◌∷◌, ◌++◌}
use Prim.Native.Nat.{ℕ, zero, suc, ◌<◌}
use native.Mathlib.Omega.{arith}
use lib.IntN.{ℤ, pos, neg_ℤ, ◌+ℤ◌, ◌*ℤ◌}
use lib.ListN.{length}
use lib.Signed.{◌<ℤ◌}
use Rattle.lists.specs.Membership.{Mem}
use Rattle.lists.specs.Place.{under, under_each, on_head, swapped, swap_all}
use Rattle.lists.proofs.FlatMapLaws.{mem-flat_map}
use Rattle.lists.proofs.SwapLaws.{swap-lengths}
use Rattle.integers.specs.Sign.{Sign, less, equal, greater, sign, turned}
use Rattle.integers.proofs.DifferenceLaws.{add-fact}
use Rattle.integers.proofs.RingLaws.{zarith}
use Rattle.integers.proofs.DivisionLaws.{quotient, rest, split-less}
use Rattle.integers.proofs.SignLaws.{Means, sign-means, means-sign, sign-negated, sign-self}
use Rattle.model.specs.Ticket.{Step, exchange, reversal, skew, section, circulation}
use Rattle.model.specs.Directions.{signs, by_sign}
use Rattle.model.specs.Steps.{skewed, sectioned, chain, forward, any_sign, sum_signs, signed_sign, head_sum, skew_signs, split_sign, split_signs}
use Rattle.model.specs.Steps.{vectors, vectors_after}
use Rattle.model.specs.Shape.{Proper}

-- ---- sums

pub any-sign : (s : Sign) → Mem s any_sign
unfolding any_sign
any-sign less = Memᴰ.head refl
any-sign equal = Memᴰ.tail (Memᴰ.head refl)
any-sign greater = Memᴰ.tail (Memᴰ.tail (Memᴰ.head refl))

module _ (x y u v : ℤ) where
  sum_is : (s : Sign) → Means s (x +ℤ u) (y +ℤ v) → sign (x +ℤ u) (y +ℤ v) ≡ s
  sum_is s m = means-sign s (x +ℤ u) (y +ℤ v) m

  sum_shifted : (t : Sign) → x ≡ y → Means t u v → Means t (x +ℤ u) (y +ℤ v)
  sum_shifted less h k = omega (zarith, add-fact x u, add-fact y v)
  sum_shifted equal h k = ap₂ ◌+ℤ◌ h k
  sum_shifted greater h k = omega (zarith, add-fact x u, add-fact y v)

  sum-among : (s t : Sign) → Means s x y → Means t u v → Mem (sign (x +ℤ u) (y +ℤ v)) (sum_signs s t)
  unfolding sum_signs
  sum-among equal t h k = Memᴰ.head (sum_is t (sum_shifted t h k))
  sum-among less less h k = Memᴰ.head (sum_is less (omega (zarith, add-fact x u, add-fact y v)))
  sum-among less equal h k = Memᴰ.head (sum_is less (omega (zarith, add-fact x u, add-fact y v)))
  sum-among less greater h k = any-sign (sign (x +ℤ u) (y +ℤ v))
  sum-among greater less h k = any-sign (sign (x +ℤ u) (y +ℤ v))
  sum-among greater equal h k = Memᴰ.head (sum_is greater (omega (zarith, add-fact x u, add-fact y v)))
  sum-among greater greater h k = Memᴰ.head (sum_is greater (omega (zarith, add-fact x u, add-fact y v)))

  pub sum-sign : Mem (sign (x +ℤ u) (y +ℤ v)) (sum_signs (sign x y) (sign u v))
  sum-sign = sum-among (sign x y) (sign u v) (sign-means x y) (sign-means u v)

-- ---- quotient and rest

module _ (w : ℤ) (h : pos 0 <ℤ w) (x y : ℤ) where
  split-among : (s : Sign) → Means s x y → Mem (sign (quotient w x) (quotient w y) ∷ sign (rest w x) (rest w y) ∷ []) (split_sign s)
  unfolding split_sign
  split-among less m = ⊎_elim
      (λ l. Memᴰ.cast (ap (λ s. s ∷ sign (rest w x) (rest w y) ∷ []) (means-sign less (quotient w x) (quotient w y) l))
      (Memᴰ.tail (Memᴰ.map (λ s. less ∷ s ∷ []) (any-sign (sign (rest w x) (rest w y))))))
      (λ l. Memᴰ.head (ap₂ (λ s t. s ∷ t ∷ []) (means-sign equal (quotient w x) (quotient w y) l.0)
      (means-sign less (rest w x) (rest w y) l.1)))
      (split-less w h x y m)
  split-among equal m = Memᴰ.head (ap₂ (λ s t. s ∷ t ∷ []) (means-sign equal (quotient w x) (quotient w y) (ap (quotient w) m))
      (means-sign equal (rest w x) (rest w y) (ap (rest w) m)))
  split-among greater m = ⊎_elim
      (λ l. Memᴰ.cast (ap (λ s. s ∷ sign (rest w x) (rest w y) ∷ []) (means-sign greater (quotient w x) (quotient w y) l))
      (Memᴰ.tail (Memᴰ.map (λ s. greater ∷ s ∷ []) (any-sign (sign (rest w x) (rest w y))))))
      (λ l. Memᴰ.head (ap₂ (λ s t. s ∷ t ∷ []) (means-sign equal (quotient w x) (quotient w y) (sym l.0))
      (means-sign greater (rest w x) (rest w y) l.1)))
      (split-less w h y x m)

  pub split-sign : Mem (sign (quotient w x) (quotient w y) ∷ sign (rest w x) (rest w y) ∷ []) (split_sign (sign x y))
  split-sign = split-among (sign x y) (sign-means x y)

-- ---- a change that begins at place n

module _ (f g : List ℤ → List ℤ) where
  -- exactly one vector
  signs-under : (k : List Sign → List Sign) → ((p q : List ℤ) → length p ≡ length q → signs (f p) (g q) ≡ k (signs p q))
      → (n : ℕ) (p q : List ℤ) → length p ≡ length q → signs (under n f p) (under n g q) ≡ under n k (signs p q)
  unfolding under signs
  signs-under k h zero p q e = h p q e
  signs-under k h (suc n) [] q e = refl
  signs-under k h (suc n) (x ∷ p) [] e = absurd (omega arith)
  signs-under k h (suc n) (x ∷ p) (y ∷ q) e = ap (sign x y ∷◌) (signs-under k h n p q (omega arith))

  -- among several
  signs-under_each : (k : List Sign → List (List Sign)) → ((p q : List ℤ) → length p ≡ length q → Mem (signs (f p) (g q)) (k (signs p q)))
      → (n : ℕ) (p q : List ℤ) → length p ≡ length q → Mem (signs (under n f p) (under n g q)) (under_each n k (signs p q))
  unfolding under under_each signs
  signs-under_each k h zero p q e = h p q e
  signs-under_each k h (suc n) [] q e = Memᴰ.head refl
  signs-under_each k h (suc n) (x ∷ p) [] e = absurd (omega arith)
  signs-under_each k h (suc n) (x ∷ p) (y ∷ q) e = Memᴰ.map (λ v. sign x y ∷ v) (signs-under_each k h n p q (omega arith))

-- ---- exchange

swapped-signs : (p q : List ℤ) → length p ≡ length q → signs (swapped p) (swapped q) ≡ swapped (signs p q)
unfolding swapped signs
swapped-signs [] q e = refl
swapped-signs (x ∷ p) [] e = absurd (omega arith)
swapped-signs (x ∷ []) (y ∷ []) e = refl
swapped-signs (x ∷ []) (y ∷ v ∷ q) e = absurd (omega arith)
swapped-signs (x ∷ u ∷ p) (y ∷ []) e = absurd (omega arith)
swapped-signs (x ∷ u ∷ p) (y ∷ v ∷ q) e = refl

pub exchange-signs : (a : ℕ) (p q : List ℤ) → length p ≡ length q
    → vectors (exchange a) (signs p q) ≡ signs (forward (exchange a) p) (forward (exchange a) q) ∷ []
unfolding vectors forward
exchange-signs a p q e = ap (λ v. v ∷ []) (sym (signs-under swapped swapped swapped swapped-signs a p q e))

-- ---- circulation

swap_all-signs : (ks : List ℕ) (p q : List ℤ) → length p ≡ length q → signs (swap_all ks p) (swap_all ks q) ≡ swap_all ks (signs p q)
unfolding swap_all
swap_all-signs [] p q e = refl
swap_all-signs (k ∷ ks) p q e =
    swap_all-signs ks (under k swapped p) (under k swapped q) (swap-lengths k p q e)
    ∙ ap (swap_all ks) (signs-under swapped swapped swapped swapped-signs k p q e)

pub circulation-signs : (a b : ℕ) (p q : List ℤ) → length p ≡ length q
    → vectors (circulation a b) (signs p q) ≡ signs (forward (circulation a b) p) (forward (circulation a b) q) ∷ []
unfolding vectors forward
circulation-signs a b p q e = ap (λ v. v ∷ []) (sym (swap_all-signs (chain a b) p q e))

-- ---- reversal

negated-signs : (p q : List ℤ) → length p ≡ length q → signs (on_head neg_ℤ p) (on_head neg_ℤ q) ≡ on_head turned (signs p q)
unfolding on_head signs
negated-signs [] q e = refl
negated-signs (x ∷ p) [] e = refl
negated-signs (x ∷ p) (y ∷ q) e = ap (◌∷ signs p q) (sign-negated x y)

pub reversal-signs : (a : ℕ) (p q : List ℤ) → length p ≡ length q
    → vectors (reversal a) (signs p q) ≡ signs (forward (reversal a) p) (forward (reversal a) q) ∷ []
unfolding vectors forward
reversal-signs a p q e = ap (λ v. v ∷ []) (sym (signs-under (on_head neg_ℤ) (on_head neg_ℤ) (on_head turned) negated-signs a p q e))

-- ---- skew

-- by a negative factor
mul-below : {c x y : ℤ} → c <ℤ pos 0 → x <ℤ y → (c *ℤ y) <ℤ (c *ℤ x)
mul-below {c} {x} {y} h g = lin (c ∷ x ∷ y ∷ []) (λ c x y. ⊝ c ⊗ x ⊏ ⊝ c ⊗ y ⟶ c ⊗ y ⊏ c ⊗ x) tt
    (mul-< (lin (c ∷ []) (λ c. c ⊏ # 0 ⟶ # 0 ⊏ ⊝ c) tt h) g)

signed-sign : (c x y : ℤ) → sign (c *ℤ x) (c *ℤ y) ≡ signed_sign c (sign x y)
unfolding signed_sign
signed-sign c x y = go (sign (pos 0) c) (sign-means (pos 0) c) (sign x y) (sign-means x y)
  where
    go : (s : Sign) → Means s (pos 0) c → (t : Sign) → Means t x y → sign (c *ℤ x) (c *ℤ y) ≡ by_sign s t equal (turned t)
    go less h less m = means-sign less (c *ℤ x) (c *ℤ y) (mul-< h m)
    go less h equal m = ap (λ z. sign (c *ℤ x) (c *ℤ z)) (sym m) ∙ sign-self (c *ℤ x)
    go less h greater m = means-sign greater (c *ℤ x) (c *ℤ y) (mul-< h m)
    go equal h t m = means-sign equal (c *ℤ x) (c *ℤ y) (subst (λ z. z *ℤ x ≡ z *ℤ y) h (lin (x ∷ y ∷ []) (λ x y. # 0 ⊗ x ≐ # 0 ⊗ y) tt))
    go greater h less m = means-sign greater (c *ℤ x) (c *ℤ y) (mul-below h m)
    go greater h equal m = ap (λ z. sign (c *ℤ x) (c *ℤ z)) (sym m) ∙ sign-self (c *ℤ x)
    go greater h greater m = means-sign less (c *ℤ x) (c *ℤ y) (mul-below h m)

head-sum-signs : (x y : ℤ) (p q : List ℤ) → length p ≡ length q
    → Mem (signs (on_head (λ u. u +ℤ x) p) (on_head (λ u. u +ℤ y) q)) (head_sum (sign x y) (signs p q))
unfolding on_head signs head_sum
head-sum-signs x y [] q e = Memᴰ.head refl
head-sum-signs x y (u ∷ p) [] e = absurd (omega arith)
head-sum-signs x y (u ∷ p) (v ∷ q) e = Memᴰ.map (λ r. r ∷ signs p q) (sum-sign u v x y)

skewed-signs : (d : ℕ) (c : ℤ) (p q : List ℤ) → length p ≡ length q → Mem (signs (skewed d c p) (skewed d c q)) (skew_signs d c (signs p q))
unfolding skewed skew_signs signs
skewed-signs d c [] q e = Memᴰ.head refl
skewed-signs d c (x ∷ p) [] e = absurd (omega arith)
skewed-signs d c (x ∷ p) (y ∷ q) e =
    let f : List ℤ → List ℤ = on_head (λ u. u +ℤ (c *ℤ x)) in
    let g : List ℤ → List ℤ = on_head (λ u. u +ℤ (c *ℤ y)) in
    Memᴰ.map (λ r. sign x y ∷ r) (subst (λ s. Mem (signs (under d f p) (under d g q)) (under_each d (head_sum s) (signs p q))) (signed-sign c x y)
    (signs-under_each f g (head_sum (sign (c *ℤ x) (c *ℤ y))) (head-sum-signs (c *ℤ x) (c *ℤ y)) d p q (omega arith)))

-- ---- section

module _ (w : ℕ) (h : 0 < w) where
  sectioned-signs : (p q : List ℤ) → length p ≡ length q → Mem (signs (sectioned w p) (sectioned w q)) (split_signs (signs p q))
  unfolding sectioned split_signs signs
  sectioned-signs [] q e = Memᴰ.head refl
  sectioned-signs (x ∷ p) [] e = absurd (omega arith)
  sectioned-signs (x ∷ p) (y ∷ q) e = Memᴰ.map (λ r. r ++ signs p q) (split-sign (pos w) (omega zarith) x y)

-- ---- any step

pub step-signs : (t : Step) → Proper t → (p q : List ℤ) → length p ≡ length q → Mem (signs (forward t p) (forward t q)) (vectors t (signs p q))
step-signs (exchange a) h p q e = subst (Mem (signs (forward (exchange a) p) (forward (exchange a) q))) (sym (exchange-signs a p q e))
    (Memᴰ.head refl)
step-signs (reversal a) h p q e = subst (Mem (signs (forward (reversal a) p) (forward (reversal a) q))) (sym (reversal-signs a p q e))
    (Memᴰ.head refl)
step-signs (skew a d c) h p q e = unfold vectors forward in signs-under_each (skewed d c) (skewed d c) (skew_signs d c) (skewed-signs d c) a p q e
step-signs (section a w) h p q e = unfold vectors forward in signs-under_each (sectioned w) (sectioned w) split_signs (sectioned-signs w h) a p q e
step-signs (circulation a b) h p q e =
    subst (Mem (signs (forward (circulation a b) p) (forward (circulation a b) q))) (sym (circulation-signs a b p q e)) (Memᴰ.head refl)

-- in a set of vectors
pub vectors-after : (t : Step) → Proper t → (vs : List (List Sign)) (p q : List ℤ) → length p ≡ length q → Mem (signs p q) vs
    → Mem (signs (forward t p) (forward t q)) (vectors_after t vs)
unfolding vectors_after
vectors-after t h vs p q e m = mem-flat_map (vectors t) vs m (step-signs t h p q e)
