-- The first n places of a row: a number there; one place more; u xs + v ys; a change at a place as stores leave it.
use mathlib.Core.Path.{◌≡◌, refl, sym, ◌∙◌, ap, subst}
use mathlib.Core.List.{List, [], ◌∷◌, ◌++◌, map, zip_with, append_assoc}
use Prim.Native.Nat.{ℕ, zero, suc, ◌<◌, ◌≤◌, ◌+◌}
use native.Mathlib.Omega.{arith}
use native.Mathlib.Numerals.{add-one}
use lib.ListN.{length, get_or, take, drop, set}
use lib.Seq.{get_or-take, length-take-le, take-set-lt, take-suc-set, take-take, take-suc, set_at}
use lib.IntN.{ℤ, pos, negsuc, neg_ℤ, ◌+ℤ◌, ◌-ℤ◌, ◌*ℤ◌}
use Rattle.integers.specs.Affine.{Within}
use Rattle.integers.specs.Difference.{size}
use Rattle.integers.proofs.AffineLaws.{within-at, within-take}
use Rattle.integers.proofs.Linear.{lin, ◌≐◌}
use Rattle.integers.proofs.Polynomial.{◌⊕◌, ◌⊗◌, ⊝, #}
use Rattle.lists.specs.Place.{under, on_head}
use Rattle.lists.proofs.PlaceLaws.{under-on_head}
use Rattle.model.specs.Limits.{skew_coefficients, split_coefficients}
use Rattle.step_limits.specs.Makes.{mixed}
use Rattle.step_limits.proofs.NumberLaws.{minus-times}

-- ---- numbers of a front

pub front_at : {m : ℕ} (n : ℕ) (l : List ℤ) (i : ℕ) → i < n → Within m (take n l) → size (get_or l i (pos 0)) ≤ m
front_at {m} n l i h f = subst (λ (z : ℤ). size z ≤ m) (get_or-take n l i (pos 0) h) (within-at m (take n l) f i)

pub front-shorter : {A : Type 0} (n : ℕ) (l : List A) → take n (take (n + 1) l) ≡ take n l
front-shorter n l = take-take n (n + 1) l (omega arith)

pub within-shorter : (m n : ℕ) (l : List ℤ) → Within m (take (n + 1) l) → Within m (take n l)
within-shorter m n l f = subst (Within m) (front-shorter n l) (within-take m (take (n + 1) l) n f)

-- ---- one place more

pub front-longer : {A : Type 0} (n : ℕ) (l : List A) (z : A) → n < length l → take (n + 1) (set l n z) ≡ take n l ++ (z ∷ [])
front-longer n l z h = rw add-one (take-suc-set l n z h)

-- ---- u xs + v ys

mixed-snoc : (u v : ℤ) (k : ℕ) (xs ys : List ℤ) → k < length xs → k < length ys
    → mixed u v (take (suc k) xs) (take (suc k) ys) ≡ mixed u v (take k xs) (take k ys) ++ ((u *ℤ get_or xs k (pos 0) +ℤ v *ℤ get_or ys k (pos 0)) ∷ [])
unfolding zip_with
mixed-snoc u v k [] ys h g = absurd (omega arith)
mixed-snoc u v k (x ∷ xs) [] h g = absurd (omega arith)
mixed-snoc u v zero (x ∷ xs) (y ∷ ys) h g = refl
mixed-snoc u v (suc k) (x ∷ xs) (y ∷ ys) h g = ap ((u *ℤ x +ℤ v *ℤ y) ∷◌) (mixed-snoc u v k xs ys (omega arith) (omega arith))

pub mix-more : (u v : ℤ) (k : ℕ) (r xs ys : List ℤ) (z : ℤ) → k < length r → k < length xs → k < length ys
    → take k r ≡ mixed u v (take k xs) (take k ys) → z ≡ u *ℤ get_or xs k (pos 0) +ℤ v *ℤ get_or ys k (pos 0)
    → take (k + 1) (set r k z) ≡ mixed u v (take (k + 1) xs) (take (k + 1) ys)
mix-more u v k r xs ys z h hx hy e f = rw add-one (take-suc-set r k z h ∙ ap (◌++ (z ∷ [])) e
    ∙ ap (λ w. mixed u v (take k xs) (take k ys) ++ (w ∷ [])) f ∙ sym (mixed-snoc u v k xs ys hx hy))

-- −1 and 0 change every sign
pub mixed-negates : (l : List ℤ) → mixed (negsuc 0) (pos 0) l l ≡ map neg_ℤ l
unfolding zip_with
mixed-negates [] = refl
mixed-negates (x ∷ l) = ap (◌∷ mixed (negsuc 0) (pos 0) l l) (lin (x ∷ []) (λ x. ⊝ (# 1) ⊗ x ⊕ # 0 ⊗ x ≐ ⊝ x) tt) ∙ ap (neg_ℤ x ∷◌) (mixed-negates l)

-- ---- a change at a place

module _ {A : Type 0} (d : A) where
  pub front-on_head : (f : A → A) (n a : ℕ) (l : List A) (z : A) → a < n → z ≡ f (get_or l a d) → take n (set l a z) ≡ under a (on_head f) (take n l)
  front-on_head f n a l z h e = take-set-lt n l a z h ∙ ap (set (take n l) a) (e ∙ ap f (sym (get_or-take n l a d h)))
      ∙ sym (under-on_head f a (take n l) d)

-- ---- skew

under-skew : (d : ℕ) (c : ℤ) (a : ℕ) (l : List ℤ) → a + 1 + d < length l
    → under a (skew_coefficients d c) l ≡ set l a (get_or l a (pos 0) -ℤ (c *ℤ get_or l (a + 1 + d) (pos 0)))
unfolding under skew_coefficients
under-skew d c zero [] h = absurd (omega arith)
under-skew d c (suc a) [] h = absurd (omega arith)
under-skew d c zero (x ∷ l) h = let e : 0 + 1 + d ≡ suc d = omega arith in rw e refl
under-skew d c (suc a) (x ∷ l) h = let e : suc a + 1 + d ≡ suc (a + 1 + d) = omega arith in rw e (ap (x ∷◌) (under-skew d c a l (omega arith)))

pub front-skewed : (n a d : ℕ) (c : ℤ) (l : List ℤ) (z : ℤ) → n ≤ length l → a + 1 + d < n
    → z ≡ get_or l a (pos 0) +ℤ (neg_ℤ c *ℤ get_or l (a + 1 + d) (pos 0))
    → take n (set l a z) ≡ under a (skew_coefficients d c) (take n l)
front-skewed n a d c l z g h e =
    let k : length (take n l) ≡ n = length-take-le n l g in
    take-set-lt n l a z (omega arith)
    ∙ ap (set (take n l) a) (e ∙ minus-times (get_or l a (pos 0)) c (get_or l (a + 1 + d) (pos 0)))
    ∙ rw (← (get_or-take n l a (pos 0) (omega arith)), ← (get_or-take n l (a + 1 + d) (pos 0) h)) (sym (under-skew d c a (take n l) (omega arith)))

-- ---- section: the places from a on move by one

split-under : (w a : ℕ) (l : List ℤ) → a < length l → under a (split_coefficients w) l ≡ take a l ++ ((get_or l a (pos 0) *ℤ pos w) ∷ drop a l)
unfolding under split_coefficients
split-under w zero [] h = absurd (omega arith)
split-under w (suc a) [] h = absurd (omega arith)
split-under w zero (x ∷ l) h = refl
split-under w (suc a) (x ∷ l) h = ap (x ∷◌) (split-under w a l (omega arith))

-- place a is there twice, and its first copy is multiplied
pub front-split : (w a n : ℕ) (r l : List ℤ) (z : ℤ) → n ≤ length l → a < n
    → take (n + 1) r ≡ take (a + 1) l ++ drop a (take n l) → z ≡ get_or l a (pos 0) *ℤ pos w
    → take (n + 1) (set r a z) ≡ under a (split_coefficients w) (take n l)
front-split w a n r l z hl h e f =
    let p : length (take a l) ≡ a = length-take-le a l (omega arith) in
    let k : length (take n l) ≡ n = length-take-le n l hl in
    let u : take a (take n l) ≡ take a l = take-take a n l (omega arith) in
    let o : take (a + 1) l ≡ take a l ++ (get_or l a (pos 0) ∷ []) = rw add-one (take-suc l a (pos 0) (omega arith)) in
    take-set-lt (n + 1) r a z (omega arith)
    ∙ ap (λ y. set y a z) (e ∙ ap (◌++ drop a (take n l)) o ∙ append_assoc (take a l) (get_or l a (pos 0) ∷ []) (drop a (take n l)))
    ∙ set_at (take a l) (get_or l a (pos 0)) (drop a (take n l)) z a p
    ∙ rw (split-under w a (take n l) (omega arith), u, get_or-take n l a (pos 0) h, f) refl
