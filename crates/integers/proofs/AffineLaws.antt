-- Affine values: the dot product of longer lists, of changed coefficients, of a changed index, of the first elements (as a loop sums them);
-- then its size; then what divides it.
use mathlib.Core.Path.{◌≡◌, refl, sym, ◌∙◌, ap}
use mathlib.Core.List.{List, [], ◌∷◌, ◌++◌, map, zip_with, Memᴰ}
use Prim.Native.Nat.{ℕ, zero, suc, ◌+◌, ◌*◌, ◌≤◌, ◌<◌}
use native.Mathlib.Omega.{arith}
use lib.ListN.{length, get_or, take, drop, replicate, take-append-drop}
use lib.Seq.{take-length, length-take-le}
use lib.IntN.{ℤ, pos, neg_ℤ, ◌+ℤ◌, ◌*ℤ◌}
use Rattle.lists.specs.Place.{under, on_head}
use Rattle.integers.specs.Difference.{size}
use Rattle.integers.specs.Affine.{dot, affine, Within, AffineIn}
use Rattle.integers.proofs.RangeLaws.{size-add, size-mul}
use Rattle.integers.proofs.Polynomial.{◌⊕◌, ◌⊗◌, ⊝, #}
use Rattle.integers.proofs.Linear.{lin, ◌≐◌}
use Rattle.integers.proofs.OrderLaws.{◌∣ℤ◌, ∣-zero, ∣-add, ∣-mul}

-- ---- longer lists

pub dot-none : (cs : List ℤ) → dot cs [] ≡ pos 0
unfolding dot
dot-none [] = refl
dot-none (c ∷ cs) = refl

pub dot-append : (cs ds xs ys : List ℤ) → length cs ≡ length xs → dot (cs ++ ds) (xs ++ ys) ≡ dot cs xs +ℤ dot ds ys
unfolding dot
dot-append [] ds [] ys e = lin (dot ds ys ∷ []) (λ d. d ≐ # 0 ⊕ d) tt
dot-append [] ds (x ∷ xs) ys e = absurd (omega arith)
dot-append (c ∷ cs) ds [] ys e = absurd (omega arith)
dot-append (c ∷ cs) ds (x ∷ xs) ys e =
    ap (λ t. c *ℤ x +ℤ t) (dot-append cs ds xs ys (omega arith))
    ∙ lin ((c *ℤ x) ∷ dot cs xs ∷ dot ds ys ∷ []) (λ a b d. a ⊕ (b ⊕ d) ≐ a ⊕ b ⊕ d) tt

-- one coefficient and one index more
pub dot-more : (cs : List ℤ) (c : ℤ) (xs : List ℤ) (x : ℤ) → length cs ≡ length xs → dot (cs ++ (c ∷ [])) (xs ++ (x ∷ [])) ≡ dot cs xs +ℤ c *ℤ x
unfolding dot
dot-more cs c xs x e = dot-append cs (c ∷ []) xs (x ∷ []) e ∙ lin (dot cs xs ∷ c ∷ x ∷ []) (λ d c x. d ⊕ (c ⊗ x ⊕ # 0) ≐ d ⊕ c ⊗ x) tt

pub dot-last : (cs xs : List ℤ) (x : ℤ) → length cs ≡ suc (length xs)
    → dot cs (xs ++ (x ∷ [])) ≡ dot (take (length xs) cs) xs +ℤ get_or cs (length xs) (pos 0) *ℤ x
unfolding dot
dot-last [] xs x e = absurd (omega arith)
dot-last (c ∷ []) [] x e = lin (c ∷ x ∷ []) (λ c x. c ⊗ x ⊕ # 0 ≐ # 0 ⊕ c ⊗ x) tt
dot-last (c ∷ d ∷ cs) [] x e = absurd (omega arith)
dot-last (c ∷ cs) (y ∷ xs) x e = ap (λ d. c *ℤ y +ℤ d) (dot-last cs xs x (omega arith))
    ∙ lin ((c *ℤ y) ∷ dot (take (length xs) cs) xs ∷ (get_or cs (length xs) (pos 0) *ℤ x) ∷ []) (λ a d b. a ⊕ (d ⊕ b) ≐ a ⊕ d ⊕ b) tt

-- coefficients beyond the indices count for nothing
pub dot-short : (cs ds xs : List ℤ) → length xs ≤ length cs → dot (cs ++ ds) xs ≡ dot cs xs
unfolding dot
dot-short [] ds [] h = dot-none ds
dot-short [] ds (x ∷ xs) h = absurd (omega arith)
dot-short (c ∷ cs) ds [] h = refl
dot-short (c ∷ cs) ds (x ∷ xs) h = ap (λ t. c *ℤ x +ℤ t) (dot-short cs ds xs (omega arith))

pub dot-front : (n : ℕ) (cs xs : List ℤ) → length xs ≤ n → n ≤ length cs → dot (take n cs) xs ≡ dot cs xs
dot-front n cs xs h g = let l = length-take-le n cs g in sym (dot-short (take n cs) (drop n cs) xs (omega arith))
    ∙ ap (λ t. dot t xs) (take-append-drop n cs)

-- ---- changed coefficients

pub dot-neg : (cs xs : List ℤ) → dot (map neg_ℤ cs) xs ≡ neg_ℤ (dot cs xs)
unfolding dot
dot-neg [] xs = refl
dot-neg (c ∷ cs) [] = refl
dot-neg (c ∷ cs) (x ∷ xs) = ap (λ t. neg_ℤ c *ℤ x +ℤ t) (dot-neg cs xs) ∙ lin (c ∷ x ∷ dot cs xs ∷ []) (λ c x d. ⊝ c ⊗ x ⊕ ⊝ d ≐ ⊝ (c ⊗ x ⊕ d)) tt

pub dot-zeros : (n : ℕ) (xs : List ℤ) → dot (replicate n (pos 0)) xs ≡ pos 0
unfolding dot
dot-zeros zero xs = refl
dot-zeros (suc n) [] = refl
dot-zeros (suc n) (x ∷ xs) = ap (λ t. pos 0 *ℤ x +ℤ t) (dot-zeros n xs) ∙ lin (x ∷ []) (λ x. # 0 ⊗ x ⊕ # 0 ≐ # 0) tt

-- u times the one and v times the other
pub dot-mixed : (u v : ℤ) (cs ds xs : List ℤ) → length cs ≡ length ds
    → dot (zip_with (λ c d. u *ℤ c +ℤ v *ℤ d) cs ds) xs ≡ u *ℤ dot cs xs +ℤ v *ℤ dot ds xs
unfolding dot zip_with
dot-mixed u v [] [] xs e = lin (u ∷ v ∷ []) (λ u v. # 0 ≐ u ⊗ # 0 ⊕ v ⊗ # 0) tt
dot-mixed u v [] (d ∷ ds) xs e = absurd (omega arith)
dot-mixed u v (c ∷ cs) [] xs e = absurd (omega arith)
dot-mixed u v (c ∷ cs) (d ∷ ds) [] e = lin (u ∷ v ∷ []) (λ u v. # 0 ≐ u ⊗ # 0 ⊕ v ⊗ # 0) tt
dot-mixed u v (c ∷ cs) (d ∷ ds) (x ∷ xs) e =
    ap (λ t. (u *ℤ c +ℤ v *ℤ d) *ℤ x +ℤ t) (dot-mixed u v cs ds xs (omega arith))
    ∙ lin (u ∷ v ∷ c ∷ d ∷ x ∷ dot cs xs ∷ dot ds xs ∷ []) (λ u v c d x s t. (u ⊗ c ⊕ v ⊗ d) ⊗ x ⊕ (u ⊗ s ⊕ v ⊗ t) ≐ u ⊗ (c ⊗ x ⊕ s) ⊕ v ⊗
    (d ⊗ x ⊕ t)) tt

-- the one u times, and the other
pub dot-scaled : (u : ℤ) (cs ds xs : List ℤ) → length cs ≡ length ds → dot (zip_with (λ c d. c *ℤ u +ℤ d) cs ds) xs ≡ dot cs xs *ℤ u +ℤ dot ds xs
unfolding dot zip_with
dot-scaled u [] [] xs e = lin (u ∷ []) (λ u. # 0 ≐ # 0 ⊗ u ⊕ # 0) tt
dot-scaled u [] (d ∷ ds) xs e = absurd (omega arith)
dot-scaled u (c ∷ cs) [] xs e = absurd (omega arith)
dot-scaled u (c ∷ cs) (d ∷ ds) [] e = lin (u ∷ []) (λ u. # 0 ≐ # 0 ⊗ u ⊕ # 0) tt
dot-scaled u (c ∷ cs) (d ∷ ds) (x ∷ xs) e =
    ap (λ t. (c *ℤ u +ℤ d) *ℤ x +ℤ t) (dot-scaled u cs ds xs (omega arith))
    ∙ lin (u ∷ c ∷ d ∷ x ∷ dot cs xs ∷ dot ds xs ∷ []) (λ u c d x s t. (c ⊗ u ⊕ d) ⊗ x ⊕ (s ⊗ u ⊕ t) ≐ (c ⊗ x ⊕ s) ⊗ u ⊕ (d ⊗ x ⊕ t)) tt

pub affine-scaled : (u e f : ℤ) (cs ds xs : List ℤ) → length cs ≡ length ds
    → affine (e *ℤ u +ℤ f) (zip_with (λ c d. c *ℤ u +ℤ d) cs ds) xs ≡ affine e cs xs *ℤ u +ℤ affine f ds xs
unfolding affine
affine-scaled u e f cs ds xs h = ap (λ t. e *ℤ u +ℤ f +ℤ t) (dot-scaled u cs ds xs h)
    ∙ lin (u ∷ e ∷ f ∷ dot cs xs ∷ dot ds xs ∷ []) (λ u e f s t. e ⊗ u ⊕ f ⊕ (s ⊗ u ⊕ t) ≐ (e ⊕ s) ⊗ u ⊕ (f ⊕ t)) tt

-- one coefficient more by t
pub dot-coefficient : (outer : List ℤ) (x t : ℤ) (z ds : List ℤ) → length outer < length ds
    → dot (under (length outer) (on_head (λ b. b +ℤ t)) ds) (outer ++ x ∷ z) ≡ dot ds (outer ++ x ∷ z) +ℤ t *ℤ x
unfolding dot under on_head
dot-coefficient outer x t z [] h = absurd (omega arith)
dot-coefficient [] x t z (d ∷ ds) h = lin (d ∷ x ∷ t ∷ dot ds z ∷ []) (λ d x t r. (d ⊕ t) ⊗ x ⊕ r ≐ d ⊗ x ⊕ r ⊕ t ⊗ x) tt
dot-coefficient (y ∷ outer) x t z (d ∷ ds) h = ap (λ r. d *ℤ y +ℤ r) (dot-coefficient outer x t z ds (omega arith))
    ∙ lin ((d *ℤ y) ∷ dot ds (outer ++ x ∷ z) ∷ (t *ℤ x) ∷ []) (λ a r b. a ⊕ (r ⊕ b) ≐ a ⊕ r ⊕ b) tt

-- ---- a changed index

-- one index more by t
pub dot-index : (d : ℕ) (t : ℤ) (cs p : List ℤ) → length cs ≡ length p
    → dot cs (under d (on_head (λ y. y +ℤ t)) p) ≡ dot cs p +ℤ get_or cs d (pos 0) *ℤ t
unfolding under on_head dot
dot-index d t [] p e = lin (t ∷ []) (λ t. # 0 ≐ # 0 ⊕ # 0 ⊗ t) tt
dot-index d t (c ∷ cs) [] e = absurd (omega arith)
dot-index zero t (c ∷ cs) (x ∷ p) e = lin (c ∷ x ∷ t ∷ dot cs p ∷ []) (λ c x t r. c ⊗ (x ⊕ t) ⊕ r ≐ c ⊗ x ⊕ r ⊕ c ⊗ t) tt
dot-index (suc d) t (c ∷ cs) (x ∷ p) e = ap (λ r. c *ℤ x +ℤ r) (dot-index d t cs p (omega arith))
    ∙ lin ((c *ℤ x) ∷ dot cs p ∷ (get_or cs d (pos 0) *ℤ t) ∷ []) (λ a r b. a ⊕ (r ⊕ b) ≐ a ⊕ r ⊕ b) tt

-- ---- the first elements

pub dot-snoc : (i : ℕ) (cs xs : List ℤ) → i < length cs → i < length xs
    → dot (take (suc i) cs) (take (suc i) xs) ≡ dot (take i cs) (take i xs) +ℤ get_or cs i (pos 0) *ℤ get_or xs i (pos 0)
unfolding dot
dot-snoc i [] xs h g = absurd (omega arith)
dot-snoc i (c ∷ cs) [] h g = absurd (omega arith)
dot-snoc zero (c ∷ cs) (x ∷ xs) h g = lin (c ∷ x ∷ []) (λ c x. c ⊗ x ⊕ # 0 ≐ # 0 ⊕ c ⊗ x) tt
dot-snoc (suc i) (c ∷ cs) (x ∷ xs) h g =
    ap (λ t. c *ℤ x +ℤ t) (dot-snoc i cs xs (omega arith) (omega arith))
    ∙ lin ((c *ℤ x) ∷ dot (take i cs) (take i xs) ∷ (get_or cs i (pos 0) *ℤ get_or xs i (pos 0)) ∷ []) (λ a b c. a ⊕ (b ⊕ c) ≐ a ⊕ b ⊕ c) tt

pub dot-all : (cs xs : List ℤ) (n : ℕ) → length cs ≡ n → length xs ≡ n → dot (take n cs) (take n xs) ≡ dot cs xs
dot-all cs xs n e f = ap (λ t. dot t (take n xs)) (ap (λ k. take k cs) (sym e) ∙ take-length cs)
    ∙ ap (dot cs) (ap (λ k. take k xs) (sym f) ∙ take-length xs)

-- ---- sizes

pub within-at : (n : ℕ) (l : List ℤ) → Within n l → (i : ℕ) → size (get_or l i (pos 0)) ≤ n
within-at n [] w i = omega arith
within-at n (x ∷ l) w zero = w.0
within-at n (x ∷ l) w (suc i) = within-at n l w.1 i

pub within_all : (n : ℕ) (l : List ℤ) → ((i : ℕ) → i < length l → size (get_or l i (pos 0)) ≤ n) → Within n l
within_all n [] h = tt
within_all n (x ∷ l) h = (h 0 (omega arith), within_all n l (λ i k. h (suc i) (omega arith)))

pub within-take : (n : ℕ) (l : List ℤ) (i : ℕ) → Within n l → Within n (take i l)
within-take n l zero w = tt
within-take n [] (suc i) w = tt
within-take n (x ∷ l) (suc i) w = (w.0, within-take n l i w.1)

pub within_more : {m n : ℕ} (l : List ℤ) → Within m l → m ≤ n → Within n l
within_more [] w h = tt
within_more (x ∷ l) w h = let p = w.0 in (omega arith, within_more l w.1 h)

pub dot-size : (m n : ℕ) (cs xs : List ℤ) → Within m cs → Within n xs → size (dot cs xs) ≤ length cs * (m * n)
unfolding dot
dot-size m n [] xs p q = omega arith
dot-size m n (c ∷ cs) [] p q = omega arith
dot-size m n (c ∷ cs) (x ∷ xs) p q = omega (arith, dot-size m n cs xs p.1 q.1, size-add (c *ℤ x) (dot cs xs), size-mul c x p.0 q.0)

pub affine-size : (m n : ℕ) (e : ℤ) (cs xs : List ℤ) → Within m cs → Within n xs → size (affine e cs xs) ≤ size e + length cs * (m * n)
unfolding affine
affine-size m n e cs xs p q = omega (arith, dot-size m n cs xs p q, size-add e (dot cs xs))

-- what a nest has, whose numbers are within ±32767 and whose indices are within ±100,000
pub nest-affine : {e : ℤ} {cs xs : List ℤ} → length xs ≡ length cs → length cs ≤ 6 → size e ≤ 32767 → Within 32767 cs → Within 100000 xs
    → AffineIn e cs xs
nest-affine {e} {cs} {xs} m n s p q = record {
  matched = m;
  few = omega arith;
  constant = omega arith;
  coefficients = within_more cs p (omega arith);
  indices = within_more xs q (omega arith);
}

-- ---- divisors

pub dot-divides : (g : ℤ) (cs xs : List ℤ) → ((c : ℤ) → Memᴰ c cs → g ∣ℤ c) → g ∣ℤ dot cs xs
unfolding dot
dot-divides g [] xs h = ∣-zero g
dot-divides g (c ∷ cs) [] h = ∣-zero g
dot-divides g (c ∷ cs) (x ∷ xs) h = ∣-add (∣-mul x (h c (Memᴰ.head refl))) (dot-divides g cs xs (λ b m. h b (Memᴰ.tail m)))
