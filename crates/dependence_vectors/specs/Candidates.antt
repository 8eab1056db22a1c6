-- The number of the vector of two stored points, and the numbers of vectors that are = at some loops.
use Rattle.std.specs.Prelude.{◌≡◌, Bool, false, true, List, ℕ, zero, suc, ◌+◌, ◌*◌, ◌≤◌, ℤ, pos, length, take, drop, get_or, replicate}
use Rattle.integers.specs.Sign.{Sign, equal}
use Rattle.model.specs.Directions.{signs}
use Rattle.model.specs.Grammar.{most_loops}
use Rattle.dependence_vectors.specs.Numbers.{number, number_after}

unfoldable pub row : ℕ → List ℤ → ℕ → List ℤ
row d s x = take d (drop (x * d) s)

-- the number of the vector of two points
unfoldable pub code : ℕ → List ℤ → ℕ → ℕ → ℕ
code d s x y = number (signs (row d s x) (row d s y))

-- ---- the numbers of vectors that are = at some loops

-- the numbers of vectors of d signs are equally far from one another
unfoldable pub stride : ℕ → ℕ
stride zero = 1
stride (suc k) = stride k * 3

unfoldable pub middle : ℕ → ℕ
middle k = number_after 0 (replicate k equal)

-- loop k has one index at the points x and y
abbrev pub Agree : ℕ → List ℤ → ℕ → ℕ → ℕ → Type 0
Agree d s k x y = get_or s (x * d + k) (pos 0) ≡ get_or s (y * d + k) (pos 0)

-- the signs are = at every loop that does not vary
abbrev pub Steady : List Bool → List Sign → Type 0
Steady varying u = (k : ℕ) → get_or varying k false ≡ false → get_or u k equal ≡ equal

-- r is true of the number of such signs
abbrev pub Candidate : List Bool → ℕ → Bool → Type 0
Candidate varying v r = (u : List Sign) → length u ≤ most_loops → Steady varying u → number u ≡ v → r ≡ true
