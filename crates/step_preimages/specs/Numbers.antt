-- The mark of a vector, by its number; and back from a number to the vector.
use Rattle.std.specs.Prelude.{List, [], ◌∷◌, map, ◌≡◌, Bool, false, ℕ, zero, suc, ◌/◌, ◌%◌, ◌<◌, length, take, get_or}
use Rattle.integers.specs.Sign.{Sign, less, equal, greater}
use Rattle.lists.specs.Membership.{All}
use Rattle.dependence_vectors.specs.Numbers.{number}

abbrev pub marked : List Bool → List Sign → Bool
marked marks v = get_or marks (number v) false

-- ---- back

unfoldable pub digits_of : ℕ → List ℕ
digits_of n = n / 243 ∷ n / 81 % 3 ∷ n / 27 % 3 ∷ n / 9 % 3 ∷ n / 3 % 3 ∷ n % 3 ∷ []

unfoldable pub sign_of : ℕ → Sign
sign_of zero = less
sign_of (suc zero) = equal
sign_of (suc (suc n)) = greater

-- the vector of d signs with number n
unfoldable pub vector_of : ℕ → ℕ → List Sign
vector_of d n = take d (map sign_of (digits_of n))

-- what the code holds of a vector: six digits
pub record Digits (d : List ℕ) : Type 0 where
  pub six : length d ≡ 6
  pub small : All (λ x. x < 3) d
