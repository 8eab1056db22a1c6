-- Sums of subscripts: their sizes and the loop that sums a coefficient; then the difference of two sums is 0 where the subscripts are equal in
-- pairs.
use mathlib.Core.Path.{◌≡◌, refl, sym, ◌∙◌, ap}
use mathlib.Core.List.{List, [], ◌∷◌, map}
use Prim.Native.Nat.{ℕ, zero, suc, ◌+◌, ◌*◌, ◌≤◌, ◌<◌}
use native.Mathlib.Numerals.{add-one}
use native.Mathlib.Nat.{add-zero}
use native.Mathlib.Omega.{arith}
use lib.IntN.{ℤ, pos, ◌+ℤ◌, ◌-ℤ◌}
use lib.ListN.{length, get_or, take, drop, length-drop}
use lib.Seq.{get_or-drop, take-length}
use mir.Syntax.{w64}
use mir.Val.{SFits}
use Rattle.integers.specs.Difference.{size}
use Rattle.integers.specs.Affine.{dot, affine, Within}
use Rattle.integers.proofs.RangeLaws.{size_fits, size-add}
use Rattle.integers.proofs.AffineLaws.{within-at, dot-snoc}
use Rattle.integers.proofs.Polynomial.{◌⊕◌, ◌⊖◌, ◌⊗◌, #}
use Rattle.integers.proofs.Linear.{lin, by, ◌≐◌, ◌⟶◌}
use Rattle.model.specs.Bounds.{subscript_at}
use Rattle.nest_flat.specs.Layout.{form_at, forms_from}
use Rattle.nest_loop_ranges.proofs.TermLaws.{copy}
use Rattle.dependence_banerjee.specs.Sums.{coefficient_sum, terms, difference, SubscriptsIn, SumsIn}
use Rattle.dependence_banerjee.proofs.MachineLaws.{kept}

-- ---- one coefficient

coefficient-size : (w : List ℤ) (i k m : ℕ) → Within 32767 w → size (coefficient_sum w i k m) ≤ m * 32767
unfolding coefficient_sum
coefficient-size w i k zero h = omega arith
coefficient-size w i k (suc m) h = omega (
  arith,
  coefficient-size w i k m h,
  within-at 32767 w h ((i + m) * 8 + k),
  size-add
      (coefficient_sum w i k m) (get_or w ((i + m) * 8 + k) (pos 0)),
)

pub coefficient-none : (w : List ℤ) (i k : ℕ) → pos 0 ≡ coefficient_sum w i k 0
unfolding coefficient_sum
coefficient-none w i k = refl

module _ (w : List ℤ) (i m k : ℕ) (p : SubscriptsIn w i m) (t : ℕ) {s : ℤ} (e : s ≡ coefficient_sum w i k t) (h : t ≤ m) where
  coefficient-small : size s ≤ 98301
  coefficient-small = let f = p.few in rw e (omega (arith, coefficient-size w i k t p.small))

  module _ {x : ℤ} (f : x ≡ get_or w ((i + t) * 8 + k) (pos 0)) where
    word_small : size x ≤ 32767
    word_small = rw f (within-at 32767 w p.small ((i + t) * 8 + k))

    copied : copy x ≡ get_or w ((i + t) * 8 + k) (pos 0)
    copied = kept x word_small (omega arith) ∙ f

    sum-small : size (s +ℤ copy x) ≤ 131068
    sum-small = let a = coefficient-small in let b = word_small in let e = kept x word_small (omega arith) in rw e (omega (arith, size-add s x))

    pub coefficient-fits : SFits w64 (s +ℤ copy x)
    coefficient-fits = size_fits sum-small (omega arith)

    pub coefficient-next : copy (s +ℤ copy x) ≡ coefficient_sum w i k (t + 1)
    unfolding coefficient_sum
    coefficient-next = kept (s +ℤ copy x) sum-small (omega arith) ∙ rw (add-one t, copied, e) refl

  pub coefficient-whole : m ≤ t → (s ≡ coefficient_sum w i k m) × (size s ≤ 98301)
  coefficient-whole g = let q : t ≡ m = omega arith in (e ∙ ap (coefficient_sum w i k) q, coefficient-small)

-- ---- one subscript more

module _ (w : List ℤ) (n i j m : ℕ) (p q : List ℤ) where
  -- what the coefficients of the first k loops add
  added : ℕ → ℤ
  added k = dot (take k (drop ((i + m) * 8 + 1) w)) (take k p) -ℤ dot (take k (drop ((j + m) * 8 + 1) w)) (take k q)

  coefficient-at : (o k : ℕ) → get_or (drop (o * 8 + 1) w) k (pos 0) ≡ get_or w (o * 8 + suc k) (pos 0)
  coefficient-at o k = get_or-drop (o * 8 + 1) w k (pos 0) ∙ ap (λ z. get_or w z (pos 0)) (let e : o * 8 + 1 + k ≡ o * 8 + suc k = omega arith in e)

  terms-more : (k : ℕ) → (i + m) * 8 + 1 + k ≤ length w → (j + m) * 8 + 1 + k ≤ length w → k ≤ length p → k ≤ length q
      → terms w i j (suc m) p q k ≡ terms w i j m p q k +ℤ added k
  unfolding terms added coefficient_sum dot
  terms-more zero a b f g = refl
  terms-more (suc k) a b f g =
      let u = length-drop ((i + m) * 8 + 1) w in let v = length-drop ((j + m) * 8 + 1) w in
      let x = dot-snoc k (drop ((i + m) * 8 + 1) w) p (omega arith) (omega arith) in
      let y = dot-snoc k (drop ((j + m) * 8 + 1) w) q (omega arith) (omega arith) in
      rw (terms-more k (omega arith) (omega arith) (omega arith) (omega arith), x, y, coefficient-at (i + m) k, coefficient-at (j + m) k)
      (lin (terms w i j m p q k ∷ dot (take k (drop ((i + m) * 8 + 1) w)) (take k p) ∷ dot (take k (drop ((j + m) * 8 + 1) w)) (take k q) ∷
      coefficient_sum w i (suc k) m ∷ get_or w ((i + m) * 8 + suc k) (pos 0) ∷ get_or p k (pos 0) ∷ coefficient_sum w j (suc k) m ∷ get_or w
      ((j + m) * 8 + suc k) (pos 0) ∷ get_or q k (pos 0) ∷ [])
      (λ s t u c x p d y q. (s ⊕ (t ⊖ u)) ⊕ ((c ⊕ x) ⊗ p ⊖ (d ⊕ y) ⊗ q) ≐ (s ⊕ (c ⊗ p ⊖ d ⊗ q)) ⊕ ((t ⊕ x ⊗ p) ⊖ (u ⊕ y ⊗ q))) tt)

  module _ (a : (i + m) * 8 + 8 ≤ length w) (b : (j + m) * 8 + 8 ≤ length w) (few : n ≤ 6) (lp : length p ≡ n) (lq : length q ≡ n) where
    difference-more : difference w i j (suc m) n p q ≡ difference w i j m n p q +ℤ
        (subscript_at p (form_at w n (i + m)) -ℤ subscript_at q (form_at w n (j + m)))
    unfolding difference coefficient_sum subscript_at affine form_at added
    difference-more =
        let x : (i + m) * 8 + 0 ≡ (i + m) * 8 = omega arith in let y : (j + m) * 8 + 0 ≡ (j + m) * 8 = omega arith in
        rw (terms-more n (omega arith) (omega arith) (omega arith) (omega arith), x, y, whole p lp, whole q lq)
        (lin (coefficient_sum w i 0 m ∷ coefficient_sum w j 0 m ∷ get_or w ((i + m) * 8) (pos 0) ∷ get_or w ((j + m) * 8) (pos 0) ∷ terms w i j m p q n ∷
        dot (take n (drop ((i + m) * 8 + 1) w)) p ∷ dot (take n (drop ((j + m) * 8 + 1) w)) q ∷ [])
        (λ c d x y s t u. ((c ⊕ x) ⊖ (d ⊕ y)) ⊕ (s ⊕ (t ⊖ u)) ≐ ((c ⊖ d) ⊕ s) ⊕ ((x ⊕ t) ⊖ (y ⊕ u))) tt)
      where
        whole : (l : List ℤ) → length l ≡ n → take n l ≡ l
        whole l e = rw (sym e) (take-length l)

-- ---- no subscript

terms-none : (w : List ℤ) (i j : ℕ) (p q : List ℤ) (k : ℕ) → terms w i j 0 p q k ≡ pos 0
unfolding terms coefficient_sum
terms-none w i j p q zero = refl
terms-none w i j p q (suc k) = rw (terms-none w i j p q k) (lin (get_or p k (pos 0) ∷ get_or q k (pos 0) ∷ []) (λ x y. # 0 ⊕ (# 0 ⊗ x ⊖ # 0 ⊗ y) ≐ # 0)
    tt)

-- ---- subscripts that are equal in pairs

pub difference-zero : (w : List ℤ) (n i j m : ℕ) (p q : List ℤ) → SumsIn w i j m → n ≤ 6 → length p ≡ n → length q ≡ n
    → ((t : ℕ) → t < m → subscript_at p (form_at w n (i + t)) ≡ subscript_at q (form_at w n (j + t))) → difference w i j m n p q ≡ pos 0
unfolding difference coefficient_sum
difference-zero w n i j zero p q s f a b e = rw (terms-none w i j p q n)
difference-zero w n i j (suc m) p q s f a b e =
    let u = s.source.inside in let v = s.sink.inside in let h = s.source.few in
    difference-more w n i j m p q (omega arith) (omega arith) f a b
    ∙ by (difference w i j m n p q ∷ subscript_at p (form_at w n (i + m)) ∷ subscript_at q (form_at w n (j + m)) ∷ [])
    (λ s x y. s ≐ # 0 ⟶ x ≐ y ⟶ s ⊕ (x ⊖ y) ≐ # 0) (omega arith)
    (difference-zero w n i j m p q (record { source = fewer s.source; sink = fewer s.sink }) f a b (λ t h. e t (omega arith)))
    (e m (omega arith))
  where
    fewer : {o : ℕ} → SubscriptsIn w o (suc m) → SubscriptsIn w o m
    fewer {o} r = let u = r.inside in let h = r.few in record { small = r.small; inside = omega arith; few = omega arith }

pub equal-pairs : (w : List ℤ) (n i j d : ℕ) (p q : List ℤ) → map (subscript_at p) (forms_from w n i d) ≡ map (subscript_at q) (forms_from w n j d)
    → (t : ℕ) → t < d → subscript_at p (form_at w n (i + t)) ≡ subscript_at q (form_at w n (j + t))
unfolding forms_from
equal-pairs w n i j zero p q e t h = absurd (omega arith)
equal-pairs w n i j (suc d) p q e zero h = rw (add-zero i, add-zero j) (cc)
equal-pairs w n i j (suc d) p q e (suc t) h =
    let f : map (subscript_at p) (forms_from w n (suc i) d) ≡ map (subscript_at q) (forms_from w n (suc j) d) = cc in
    let x : suc i + t ≡ i + suc t = omega arith in let y : suc j + t ≡ j + suc t = omega arith in
    rw (sym x, sym y) (equal-pairs w n (suc i) (suc j) d p q f t (omega arith))
