-- The numbers of vectors of d loops, one after another: where they begin, how far they are from one another, and that none is left out.
use mathlib.Core.Path.{◌≡◌, refl, ◌∙◌}
use mathlib.Core.List.{List}
use Prim.Native.Nat.{ℕ, zero, suc, ◌+◌, ◌*◌, ◌-◌, ◌/◌, ◌≤◌, ◌<◌}
use native.Mathlib.Nat.{add-mul, one-mul, lt_of_mul-lt-mul_right}
use native.Mathlib.Omega.{arith}
use native.Mathlib.Decide.{dec_lt}
use lib.ListN.{length}
use Rattle.integers.specs.Sign.{Sign}
use Rattle.lists.proofs.PartLaws.{row_fits}
use Rattle.dependence_vectors.specs.Numbers.{digit, number_after, number}
use Rattle.dependence_vectors.specs.Candidates.{stride, middle}
use Rattle.dependence_vectors.proofs.NumberLaws.{number-splits, stride-half, stride-positive}

-- n is the number of a vector of d loops, or beyond them all
abbrev pub OfDepth : ℕ → ℕ → Type 0
OfDepth d n = (t : ℕ) × (n ≡ t * stride (6 - d) + middle (6 - d))

pub depth-number : (v : List Sign) (d : ℕ) → length v ≡ d → OfDepth d (number v)
unfolding stride middle number_after
depth-number v d e = elim (dec_lt 6 d) [
  | yes h ↦ let z : 6 - d ≡ 0 = omega arith in (number v, rw z (omega arith))
  | no h ↦ (number_after 0 v, number-splits v d e (omega arith))
]

module _ (d s : ℕ) (e : s ≡ stride (6 - d)) where
  pub depth-positive : 0 < s
  depth-positive = let p = stride-positive (6 - d) in omega arith

  pub depth-first : OfDepth d ((s - 1) / 2)
  depth-first = (0, stride-half (6 - d) s e ∙ nothing (stride (6 - d)) (middle (6 - d)))
    where
      nothing : (x y : ℕ) → y ≡ 0 * x + y
      nothing x y = omega arith

  pub depth-least : (n : ℕ) → OfDepth d n → (s - 1) / 2 ≤ n
  depth-least n p = let a = stride-half (6 - d) s e in let b = p.1 in omega arith

  pub depth-next : (n : ℕ) → OfDepth d n → OfDepth d (n + s)
  depth-next n p = (p.0 + 1, let a = add-mul p.0 1 (stride (6 - d)) in let b = one-mul (stride (6 - d)) in let c = p.1 in omega arith)

  -- none lies between two that follow one another
  pub depth-apart : (m n : ℕ) → OfDepth d m → OfDepth d n → m < n → m + s ≤ n
  depth-apart m n p q h = let a = p.1 in let b = q.1 in
      let l : p.0 < q.0 = lt_of_mul-lt-mul_right (stride (6 - d)) (omega arith) in
      let f = row_fits (stride (6 - d)) p.0 q.0 l in omega arith

-- the number of = alone, whatever the depth
pub depth-middle : (d : ℕ) → d ≤ 6 → OfDepth d 364
unfolding stride middle number_after digit
depth-middle zero h = (0, refl)
depth-middle (suc zero) h = (1, refl)
depth-middle (suc (suc zero)) h = (4, refl)
depth-middle (suc (suc (suc zero))) h = (13, refl)
depth-middle (suc (suc (suc (suc zero)))) h = (40, refl)
depth-middle (suc (suc (suc (suc (suc zero))))) h = (121, refl)
depth-middle (suc (suc (suc (suc (suc (suc zero)))))) h = (364, refl)
depth-middle (suc (suc (suc (suc (suc (suc (suc d))))))) h = absurd (omega arith)
