-- Sums of subscripts, coefficient by coefficient, and the difference of two sums at two iterations. The sum of one subscript is itself.
use Rattle.std.specs.Prelude.{List, ℕ, zero, suc, ◌+◌, ◌*◌, ◌≤◌, ℤ, pos, ◌+ℤ◌, ◌-ℤ◌, ◌*ℤ◌, length, get_or}
use Rattle.integers.specs.Affine.{Within}

-- coefficient k of m subscripts from subscript i on, summed: 0 is the constant, and k is of loop k − 1
unfoldable pub coefficient_sum : List ℤ → ℕ → ℕ → ℕ → ℤ
coefficient_sum w i k zero = pos 0
coefficient_sum w i k (suc m) = coefficient_sum w i k m +ℤ get_or w ((i + m) * 8 + k) (pos 0)

-- the terms of the first k loops: m subscripts from i on at p, less m subscripts from j on at q
unfoldable pub terms : List ℤ → ℕ → ℕ → ℕ → List ℤ → List ℤ → ℕ → ℤ
terms w i j m p q zero = pos 0
terms w i j m p q (suc k) =
    terms w i j m p q k +ℤ (coefficient_sum w i (suc k) m *ℤ get_or p k (pos 0) -ℤ coefficient_sum w j (suc k) m *ℤ get_or q k (pos 0))

-- with their constants, in a nest of n loops
unfoldable pub difference : List ℤ → ℕ → ℕ → ℕ → ℕ → List ℤ → List ℤ → ℤ
difference w i j m n p q = (coefficient_sum w i 0 m -ℤ coefficient_sum w j 0 m) +ℤ terms w i j m p q n

-- m subscripts from subscript i on
pub record SubscriptsIn (w : List ℤ) (i m : ℕ) : Type 0 where
  pub small : Within 32767 w
  pub inside : (i + m) * 8 ≤ length w
  pub few : m ≤ 3

-- and as many from subscript j on
pub record SumsIn (w : List ℤ) (i j m : ℕ) : Type 0 where
  pub source : SubscriptsIn w i m
  pub sink : SubscriptsIn w j m
