-- The partners of a point: the later points that conflict with it and come before it in another order.
use Rattle.std.specs.Prelude.{◌≡◌, Bool, false, ◌&&◌, List, ℕ, suc, ◌*◌, ◌-◌, ◌≤◌, ◌<◌, ℤ, length, get_or}
use Rattle.lists.specs.Tests.{select}
use Rattle.model.specs.Grammar.{most_loops, most_points}
use Rattle.model.specs.Directions.{earlier, up_from}
use Rattle.dependence_pair_search.specs.Search.{some}
use Rattle.dependence_vectors.specs.Candidates.{row}
use Rattle.pair_partners.specs.Chains.{number_at, names, First}

-- at point y an access names the element that access k names at point x, and one of the two writes
abbrev pub meets_access : List ℕ → List Bool → ℕ → ℕ → ℕ → ℕ → ℕ → Bool
meets_access ids ws n m x k y = names ids ws n m (get_or ws k false) (number_at ids n k x) y

-- the points x and y have conflicting accesses
unfoldable pub conflicting : List ℕ → List Bool → ℕ → ℕ → ℕ → ℕ → Bool
conflicting ids ws n m x y = some m (λ k. meets_access ids ws n m x k y)

-- of rows of d numbers, row y comes before row x
unfoldable pub row_before : ℕ → List ℤ → ℕ → ℕ → Bool
row_before d s y x = earlier (row d s y) (row d s x)

-- a ≤ .. < b
unfoldable pub between : ℕ → ℕ → List ℕ
between a b = up_from a (b - a)

unfoldable pub is_partner : List ℕ → List Bool → ℕ → ℕ → ℕ → List ℤ → ℕ → ℕ → Bool
is_partner ids ws n m d s x y = conflicting ids ws n m x y && row_before d s y x

-- rising
unfoldable pub partners : List ℕ → List Bool → ℕ → ℕ → ℕ → List ℤ → ℕ → List ℕ
partners ids ws n m d s x = select (is_partner ids ws n m d s x) (between (suc x) n)

-- of each access of point x the first point from y on that meets it
abbrev pub ChainsAt : List ℕ → List Bool → ℕ → ℕ → ℕ → ℕ → List ℕ → Type 0
ChainsAt ids ws n m x y chains = (k : ℕ) → k < m → First (meets_access ids ws n m x k) y n (get_or chains k 0)

-- the least of m numbers and n
pub record Least (m n : ℕ) (l : List ℕ) (r : ℕ) : Type 0 where
  pub inside : r ≤ n
  pub lower : (k : ℕ) → k < m → r ≤ get_or l k 0
  pub among : r < n → (k : ℕ) × (k < m) × (get_or l k 0 ≡ r)

-- n rows of d numbers
pub record RowsOf (d n : ℕ) (s : List ℤ) : Type 0 where
  pub shallow : d ≤ most_loops
  pub few : n ≤ most_points
  pub stored : n * d ≤ length s
