-- Sums of numbers from j on. In order: sums; a loop that makes one (`Summing`); the numbers of a nest.
use mathlib.Core.Path.{◌≡◌, refl, sym, ap, ap₂, ◌∙◌, subst}
use mathlib.Core.List.{List}
use Prim.Native.Nat.{ℕ, zero, suc, ◌+◌, ◌*◌, ◌/◌, ◌≤◌, ◌<◌}
use native.Mathlib.Nat.{add-zero, zero-add, add-suc, suc-add, add_assoc, suc-mul, mul-le-mul, mul-div-le}
use native.Mathlib.Omega.{arith}
use lib.ListN.{length, get_or}
use Rattle.lists.proofs.PartLaws.{row_next}
use Rattle.ticket_lengths.specs.Lengths.{sums, CountsIn, ArraysIn, AccessedIn}
use Rattle.model.specs.Grammar.{most_arrays}

-- ---- sums

pub sums-append : (f : ℕ → ℕ) (j m n : ℕ) → sums f j (m + n) ≡ sums f j m + sums f (j + m) n
unfolding sums
sums-append f j zero n = ap₂ (sums f) (sym (add-zero j)) (zero-add n) ∙ sym (zero-add (sums f (j + 0) n))
sums-append f j (suc m) n =
    ap (sums f j) (suc-add m n) ∙ ap (f j +◌) (sums-append f (suc j) m n ∙ ap (λ i. sums f (suc j) m + sums f i n) (suc-add j m ∙ sym (add-suc j m)))
    ∙ sym (add_assoc (f j) (sums f (suc j) m) (sums f (j + suc m) n))

-- numbers that are the same
pub sums_same : (f g : ℕ → ℕ) (j n : ℕ) → ((i : ℕ) → i < n → f (j + i) ≡ g (j + i)) → sums f j n ≡ sums g j n
unfolding sums
sums_same f g j zero h = refl
sums_same f g j (suc n) h =
    ap₂ ◌+◌ (subst (λ i. f i ≡ g i) (add-zero j) (h 0 (omega arith)))
    (sums_same f g (suc j) n (λ i b. subst (λ k. f k ≡ g k) (add-suc j i ∙ sym (suc-add j i)) (h (suc i) (omega arith))))

pub sums-constant : (m j n : ℕ) → sums (λ _. m) j n ≡ n * m
unfolding sums
sums-constant m j zero = omega arith
sums-constant m j (suc n) = let e = sums-constant m (suc j) n in let s = suc-mul n m in omega arith

-- ---- a loop that sums n numbers of at most b from the first on, after k rounds

pub record Summing (f : ℕ → ℕ) (b n total k : ℕ) : Type 0 where
  pub low : k ≤ n
  pub same : total ≡ sums f 0 k
  pub most : total ≤ k * b

pub sum-start : (f : ℕ → ℕ) (b n : ℕ) → Summing f b n 0 0
unfolding sums
sum-start f b n = record { low = omega arith; same = refl; most = omega arith }

module _ {f : ℕ → ℕ} {b n total k : ℕ} (i : Summing f b n total k) where
  pub sum_more : {x : ℕ} → k < n → x ≡ f k → x ≤ b → Summing f b n (total + x) (k + 1)
  unfolding sums
  sum_more {x} h e l = let t = i.most in let s = i.same in let r = row_next b k in let p = sums-append f 0 k 1 in let q : f (0 + k) ≡ f k = ap f
      (zero-add k) in
      record { low = omega arith; same = omega arith; most = omega arith }

  pub sum_done : n ≤ k → total ≡ sums f 0 n
  sum_done h = let l = i.low in let e : k ≡ n = omega arith in i.same ∙ ap (sums f 0) e

  -- no sum is too large
  pub sum-small : (m : ℕ) → n ≤ m → total ≤ m * b
  sum-small m h = let t = i.most in let l = i.low in let p : k * b ≤ m * b = mul-le-mul {n₁ = k} {m₁ = b} {n₂ = m} {m₂ = b} (omega arith)
      (omega arith) in omega arith

-- ---- the numbers of a nest

product-most : {a b x y : ℕ} → x ≤ a → y ≤ b → x * y ≤ a * b
product-most h k = mul-le-mul h k

-- loop k among more
pub counts-less : (c : List ℕ) (depth k : ℕ) → CountsIn c depth → k < depth → CountsIn c (k + 1)
counts-less c depth k p h = let s = p.shallow in
    record { counts = p.counts; shallow = omega arith; lower = λ i b. p.lower i (omega arith); upper = λ i b. p.upper i (omega arith) }

pub loop-most : (c : List ℕ) (k : ℕ) → CountsIn c (k + 1) → (get_or c (k * 2) 0 + get_or c (k * 2 + 1) 0) * (k + 2) ≤ 224
loop-most c k p = let s = p.shallow in let l = p.lower k (omega arith) in let u = p.upper k (omega arith) in product-most {a = 32} {b = 7}
    (omega arith) (omega arith)

pub array-ends : (a : List ℕ) (i : ℕ) → i < length a / 4 → i * 4 + 4 ≤ length a
array-ends a i h = let d = mul-div-le (length a) 4 in omega arith

pub few-arrays : (a : List ℕ) → ArraysIn a → length a / 4 ≤ most_arrays
few-arrays a p = let d = mul-div-le (length a) 4 in let f = p.few in omega arith

module _ (o a : List ℕ) (n k : ℕ) (p : AccessedIn o a n) (h : k < length o) where
  pub its-array-ends : get_or o k 0 * 4 + 4 ≤ length a
  its-array-ends = array-ends a (get_or o k 0) (p.there k h)

  its-array-flat : get_or a (get_or o k 0 * 4) 0 ≤ 3
  its-array-flat = p.arrays.dimensions (get_or o k 0) (p.there k h)

  pub access-most : get_or a (get_or o k 0 * 4) 0 * (n + 1) ≤ 21
  access-most = let s = p.shallow in product-most {a = 3} {b = 7} its-array-flat (omega arith)
