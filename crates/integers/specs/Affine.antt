-- Affine values: a constant and coefficients times indices.
use Rattle.std.specs.Prelude.{List, [], ◌∷◌, ◌≡◌, ℕ, ◌+◌, ◌≤◌, length, get_or, take, drop, ℤ, pos, ◌+ℤ◌, ◌*ℤ◌}
use Rattle.integers.specs.Difference.{size}

-- coefficients times indices, summed over the shorter list
unfoldable pub dot : List ℤ → List ℤ → ℤ
dot [] xs = pos 0
dot (c ∷ cs) [] = pos 0
dot (c ∷ cs) (x ∷ xs) = c *ℤ x +ℤ dot cs xs

unfoldable pub affine : ℤ → List ℤ → List ℤ → ℤ
affine e cs xs = e +ℤ dot cs xs

-- every element is within ±n. An index is within ±32767, in a new nest within ±100,000; a coefficient within ±32767, before it is
-- judged a product of some of these
abbrev pub Within : ℕ → List ℤ → Type 0
Within n [] = Unit {0}
Within n (x ∷ xs) = (size x ≤ n) × Within n xs

-- what `affine` can be lent: as many indices as coefficients, and no sum that leaves 64 bits
pub record AffineIn (e : ℤ) (cs xs : List ℤ) : Type 0 where
  pub matched : length xs ≡ length cs
  pub few : length cs ≤ 8
  pub constant : size e ≤ 1099511627776
  pub coefficients : Within 2147483648 cs
  pub indices : Within 1048576 xs

-- s is the sum of the constant and the first i products
pub record SumTo (e : ℤ) (cs xs : List ℤ) (i : ℕ) (s : ℤ) : Type 0 where
  pub lent : AffineIn e cs xs
  pub total : s ≡ affine e (take i cs) (take i xs)

-- among words: the constant at place `at`, the coefficients after it
unfoldable pub affine_at : List ℤ → ℕ → List ℤ → ℤ
affine_at w at xs = affine (get_or w at (pos 0)) (take (length xs) (drop (at + 1) w)) xs

pub record AffineAt (w : List ℤ) (at : ℕ) (xs : List ℤ) : Type 0 where
  pub inside : at + 1 + length xs ≤ length w
  pub lent : AffineIn (get_or w at (pos 0)) (take (length xs) (drop (at + 1) w)) xs
