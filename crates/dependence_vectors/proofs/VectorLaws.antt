-- The number of the vector of two stored points, and the loop that reads signs as digits.
use mathlib.Core.Path.{◌≡◌, refl, sym}
use mathlib.Core.List.{List}
use Prim.Native.Nat.{ℕ, ◌+◌, ◌*◌, ◌-◌, ◌/◌, ◌≤◌, ◌<◌}
use native.Mathlib.Numerals.{add-one}
use native.Mathlib.Omega.{arith}
use lib.IntN.{ℤ, pos}
use lib.ListN.{length, replicate, take, drop, get_or, length-take, length-drop}
use lib.Seq.{drop-cons, drop-length}
use mir.Syntax.{w64}
use mir.Val.{SFits, of_z, to_z}
use Rattle.integers.specs.Sign.{equal, sign}
use Rattle.model.specs.Directions.{signs, vector_count}
use Rattle.dependence_vectors.specs.Numbers.{digit, number_after, number, SignsIn, Left}
use Rattle.dependence_vectors.specs.Candidates.{row, code, stride}
use Rattle.dependence_vectors.proofs.HornerLaws.{number-after}
use Rattle.dependence_vectors.proofs.NumberLaws.{after-ge, after-append, number_lt, number-splits, sign-back, stride-half, signs-length, signs-short}

-- ---- rows

pub row-length : (d : ℕ) (s : List ℤ) (x : ℕ) → x * d + d ≤ length s → length (row d s x) ≡ d
unfolding row
row-length d s x h = simp (length-take, length-drop) (omega arith)

pub row-short : (d : ℕ) (s : List ℤ) (x : ℕ) → length (row d s x) ≤ d
unfolding row
row-short d s x = let h = length-take d (drop (x * d) s) in omega arith

pub code_lt : (s : List ℤ) (d x y : ℕ) → d ≤ 6 → code d s x y < vector_count
unfolding code
code_lt s d x y h = number_lt (signs (row d s x) (row d s y)) (let i = signs-short (row d s x) (row d s y) in let j = row-short d s x in omega arith)

-- as a call on the two parts has it
pub code_is : (s : List ℤ) (d x y : ℕ) {n : ℕ} → d ≤ 6 → n ≡ number (signs (take (x * d + d - x * d) (drop (x * d) s))
    (take (y * d + d - y * d) (drop (y * d) s))) → (n ≡ code d s x y) × (n < vector_count)
unfolding code row
code_is s d x y {n} h e = let a : x * d + d - x * d ≡ d = omega arith in let b : y * d + d - y * d ≡ d = omega arith in
    let f : n ≡ number (signs (take d (drop (x * d) s)) (take d (drop (y * d) s))) = rw (a, b) at e in
    let g = code_lt s d x y h in (f, omega arith)

-- ---- signs read as digits

module _ (p q : List ℤ) (both : SignsIn p q) where
  e : length p ≡ length q
  e = both.both

  pub digits-small : number_after 0 (signs p q) < vector_count
  digits-small =
      let few = both.few in
      let l = signs-length p q e in
      let n = number-after (signs p q) (omega arith) in
      let a = after-ge (number_after 0 (signs p q)) (replicate (6 - length (signs p q)) equal) in
      let b = after-append (signs p q) (replicate (6 - length (signs p q)) equal) 0 in
      let c = number_lt (signs p q) (omega arith) in omega arith

  pub left-first : Left p q 0 0
  unfolding Left
  left-first = refl

  left-next : (k v : ℕ) → k < length p → Left p q k v → Left p q (k + 1) (v * 3 + digit (sign (get_or p k (pos 0)) (get_or q k (pos 0))))
  unfolding Left number_after signs
  left-next k v h i = let g : k < length q = omega arith in rw (add-one k) (rw (drop-cons p k (pos 0) h, drop-cons q k (pos 0) g) at i)

  -- d is the digit of two indices that were read from 64 bits
  pub left-after : (k v : ℕ) {d : ℕ} → k < length p → SFits w64 (get_or p k (pos 0)) → SFits w64 (get_or q k (pos 0)) → Left p q k v
      → d ≡ digit (sign (to_z w64 (of_z w64 (get_or p k (pos 0)))) (to_z w64 (of_z w64 (get_or q k (pos 0))))) → Left p q (k + 1) (v * 3 + d)
  left-after k v h f g i e = rw (sign-back _ _ f g e) (left-next k v h i)

  pub left-small : (k v : ℕ) → Left p q k v → v < vector_count
  unfolding Left
  left-small k v i = let a = after-ge v (signs (drop k p) (drop k q)) in let b = digits-small in omega arith

  pub left-done : (k v : ℕ) → length p ≤ k → k ≤ length p → Left p q k v → v ≡ number_after 0 (signs p q)
  unfolding Left signs number_after
  left-done k v h g i = let a : k ≡ length p = omega arith in rw (a, drop-length p) at i

  -- then the missing loops
  pub number-padded : (w s : ℕ) → w ≡ number_after 0 (signs p q) → s ≡ stride (6 - length p) → (w * s + (s - 1) / 2 ≡ number (signs p q))
      × (w * s + (s - 1) / 2 < vector_count)
  number-padded w s a b = let c = stride-half (6 - length p) s b in let f : w * s + (s - 1) / 2 ≡ number (signs p q) = rw (c, a, b)
      (sym (number-splits (signs p q) (length p) (signs-length p q e) both.few)) in
      let g = number_lt (signs p q) (let l = signs-length p q e in omega arith) in (f, omega arith)
