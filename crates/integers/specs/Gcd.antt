-- The greatest common divisor. That of no number, and of zeros alone, is 0.
use Rattle.std.specs.Prelude.{cond, List, [], ◌∷◌, ℕ, zero, suc, ◌%◌, eqb, ℤ, nat_abs}

-- Euclid's algorithm, in at most n turns
unfoldable pub turns : ℕ → ℕ → ℕ → ℕ
turns zero a b = a
turns (suc n) a b = cond (eqb b 0) a (turns n b (a % b))

unfoldable pub gcd : ℕ → ℕ → ℕ
gcd a b = turns (suc b) a b

-- of the absolute values of a list
unfoldable pub gcd_of : List ℤ → ℕ
gcd_of [] = 0
gcd_of (a ∷ rest) = gcd (nat_abs a) (gcd_of rest)
