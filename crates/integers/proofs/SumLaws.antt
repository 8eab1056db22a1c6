-- An affine value summed product by product: none, one more, all; and that no sum on the way leaves 64 bits.
use mathlib.Core.Path.{◌≡◌, refl, sym, ◌∙◌, ap}
use mathlib.Core.List.{List}
use Prim.Native.Nat.{ℕ, ◌+◌, ◌*◌, ◌≤◌, ◌<◌}
use native.Mathlib.Omega.{arith}
use native.Mathlib.Numerals.{add-one}
use native.Mathlib.Nat.{mul-le-mul_right}
use lib.ListN.{length, get_or, take, drop, length-take}
use lib.Seq.{get_or-take, get_or-drop}
use lib.IntN.{ℤ, pos, ◌+ℤ◌, ◌*ℤ◌, +ℤ_assoc, +ℤ_idr}
use mir.Syntax.{w64}
use mir.Val.{SFits, to_z, of_z}
use Rattle.integers.specs.Difference.{size}
use Rattle.integers.specs.Affine.{dot, affine, affine_at, AffineIn, AffineAt, SumTo}
use Rattle.integers.proofs.RangeLaws.{back, sfits, size-add, size-mul}
use Rattle.integers.proofs.AffineLaws.{dot-snoc, dot-all, affine-size, within-at, within-take}

module _ (e : ℤ) (cs xs : List ℤ) (h : AffineIn e cs xs) where
  pub sum-none : SumTo e cs xs 0 e
  unfolding affine dot
  sum-none = record { lent = h; total = sym (+ℤ_idr e) }

  next-product : (i : ℕ) → i < length cs → affine e (take i cs) (take i xs) +ℤ get_or cs i (pos 0) *ℤ get_or xs i (pos 0) ≡ affine e (take (i + 1) cs)
      (take (i + 1) xs)
  unfolding affine
  next-product i k = let m = h.matched in
      +ℤ_assoc e (dot (take i cs) (take i xs)) (get_or cs i (pos 0) *ℤ get_or xs i (pos 0))
      ∙ ap (λ t. e +ℤ t) (sym (dot-snoc i cs xs k (omega arith)))
      ∙ ap (λ n. e +ℤ dot (take n cs) (take n xs)) (sym (add-one i))

  every-product : affine e (take (length cs) cs) (take (length cs) xs) ≡ affine e cs xs
  unfolding affine
  every-product = ap (λ t. e +ℤ t) (dot-all cs xs (length cs) refl h.matched)

  -- eight products of 2^31 and 2^20, and a constant of 2^40
  sum-size : (i : ℕ) → size (affine e (take i cs) (take i xs)) ≤ 36028797018963968
  sum-size i =
      let f = h.few in let k = h.constant in let l = length-take i cs in let n : length (take i cs) ≤ 8 = omega arith in
      omega (
        arith,
        affine-size 2147483648 1048576 e (take i cs) (take i xs) (within-take 2147483648 cs i h.coefficients)
            (within-take 1048576 xs i h.indices),
        mul-le-mul_right (2147483648 * 1048576) n,
      )

  read-constant : to_z w64 (of_z w64 e) ≡ e
  read-constant = let k = h.constant in back (sfits (omega arith))

  pub sum-all : {i : ℕ} {s : ℤ} → SumTo (to_z w64 (of_z w64 e)) cs xs i s → i ≡ length cs → to_z w64 (of_z w64 s) ≡ affine e cs xs
  sum-all {i} {s} g k =
      let f : s ≡ affine e (take i cs) (take i xs) = g.total ∙ ap (λ t. affine t (take i cs) (take i xs)) read-constant in
      let b = sum-size i in
      ap (λ t. to_z w64 (of_z w64 t)) f ∙ back (sfits (omega arith)) ∙ ap (λ n. affine e (take n cs) (take n xs)) k ∙ every-product

plus-fits : (s k x : ℤ) → (size s ≤ 36028797018963968) × (size k ≤ 2147483648) × (size x ≤ 1048576) → SFits w64 (k *ℤ x) × SFits w64 (s +ℤ k *ℤ x)
plus-fits s k x h = let p = size-mul k x h.1 h.2 in (sfits (omega arith), sfits (omega (arith, size-add s (k *ℤ x))))

module _ {e : ℤ} {cs xs : List ℤ} {i : ℕ} {s : ℤ} (g : SumTo e cs xs i s) where
  module _ (k : ℕ) where
    coefficient-size : size (get_or cs k (pos 0)) ≤ 2147483648
    coefficient-size = within-at 2147483648 cs g.lent.coefficients k

    index-size : size (get_or xs k (pos 0)) ≤ 1048576
    index-size = within-at 1048576 xs g.lent.indices k

    -- what is read back
    read-coefficient : to_z w64 (of_z w64 (get_or cs k (pos 0))) ≡ get_or cs k (pos 0)
    read-coefficient = let s = coefficient-size in back (sfits (omega arith))

    read-index : to_z w64 (of_z w64 (get_or xs k (pos 0))) ≡ get_or xs k (pos 0)
    read-index = let s = index-size in back (sfits (omega arith))

    plus-in : (size s ≤ 36028797018963968) × (size (to_z w64 (of_z w64 (get_or cs k (pos 0)))) ≤ 2147483648)
        × (size (to_z w64 (of_z w64 (get_or xs k (pos 0)))) ≤ 1048576)
    plus-in = (rw g.total (sum-size e cs xs g.lent i), rw read-coefficient coefficient-size, rw read-index index-size)

    -- the product at any place fits 64 bits, and so does the sum with it
    pub product-fits : SFits w64 (to_z w64 (of_z w64 (get_or cs k (pos 0))) *ℤ to_z w64 (of_z w64 (get_or xs k (pos 0))))
        × SFits w64 (s +ℤ to_z w64 (of_z w64 (get_or cs k (pos 0))) *ℤ to_z w64 (of_z w64 (get_or xs k (pos 0))))
    product-fits = plus-fits s (to_z w64 (of_z w64 (get_or cs k (pos 0)))) (to_z w64 (of_z w64 (get_or xs k (pos 0)))) plus-in

    -- as the machine adds it
    pub sum-fits : SFits w64 (s +ℤ to_z w64 (of_z w64 (to_z w64 (of_z w64 (get_or cs k (pos 0))) *ℤ to_z w64 (of_z w64 (get_or xs k (pos 0))))))
    sum-fits = rw (back product-fits.0) product-fits.1

  -- those of the next place
  pub term-fits : SFits w64 (to_z w64 (of_z w64 (get_or cs i (pos 0))) *ℤ to_z w64 (of_z w64 (get_or xs i (pos 0))))
      × SFits w64 (s +ℤ to_z w64 (of_z w64 (get_or cs i (pos 0))) *ℤ to_z w64 (of_z w64 (get_or xs i (pos 0))))
  term-fits = product-fits i

  pub sum_more : {r : ℤ} → i < length cs → r ≡ s +ℤ to_z w64 (of_z w64 (get_or cs i (pos 0))) *ℤ to_z w64 (of_z w64 (get_or xs i (pos 0)))
      → SumTo e cs xs (i + 1) r
  sum_more k t = record { lent = g.lent; total = t ∙ rw (read-coefficient i, read-index i, g.total) (next-product e cs xs g.lent i k) }

-- ---- among words

-- the sum of the constant and the first i products
abbrev pub SumAt : List ℤ → ℕ → List ℤ → ℕ → ℤ → Type 0
SumAt w at xs i s = SumTo (get_or w at (pos 0)) (take (length xs) (drop (at + 1) w)) xs i s

module _ {w : List ℤ} {at : ℕ} {xs : List ℤ} (h : AffineAt w at xs) where
  pub at_none : {r : ℤ} → r ≡ get_or w at (pos 0) → SumAt w at xs 0 (to_z w64 (of_z w64 r))
  at_none e = rw (e, read-constant _ _ _ h.lent) (sum-none _ _ _ h.lent)

  module _ {i : ℕ} {s c : ℤ} (k : i < length xs) (g : SumAt w at xs i s) (e : c ≡ get_or w (at + 1 + i) (pos 0)) where
    same : c ≡ get_or (take (length xs) (drop (at + 1) w)) i (pos 0)
    same = e ∙ sym (get_or-take (length xs) (drop (at + 1) w) i (pos 0) k ∙ get_or-drop (at + 1) w i (pos 0))

    pub at-fits : SFits w64 (to_z w64 (of_z w64 c) *ℤ to_z w64 (of_z w64 (get_or xs i (pos 0))))
        × SFits w64 (s +ℤ to_z w64 (of_z w64 c) *ℤ to_z w64 (of_z w64 (get_or xs i (pos 0))))
    at-fits = rw same (term-fits g)

    pub at_more : {r : ℤ} → r ≡ s +ℤ to_z w64 (of_z w64 c) *ℤ to_z w64 (of_z w64 (get_or xs i (pos 0))) → SumAt w at xs (i + 1) r
    at_more t = let m = h.lent.matched in sum_more g (omega arith) (t ∙ rw same)

  pub at_all : {i : ℕ} {s : ℤ} → SumAt w at xs i s → i ≡ length xs → to_z w64 (of_z w64 s) ≡ affine_at w at xs
  unfolding affine_at
  at_all {i} {s} g k = sum-all _ _ _ h.lent {i = i} {s = s} (rw (read-constant _ _ _ h.lent) g) (k ∙ h.lent.matched)
