-- Chains of points by element. Of n points and m accesses, the number of the element that access k names at point x stands at k * n + x of ids;
-- whether access k writes stands at k of ws.
use Rattle.std.specs.Prelude.{◌≡◌, Bool, true, false, ◌&&◌, ◌||◌, List, ℕ, suc, ◌+◌, ◌*◌, ◌≤◌, ◌<◌, eqb, length, get_or}
use Rattle.model.specs.Grammar.{most_accesses, most_points, most_elements}
use Rattle.dependence_pair_search.specs.Search.{some}

abbrev pub number_at : List ℕ → ℕ → ℕ → ℕ → ℕ
number_at ids n k x = get_or ids (k * n + x) 0

-- an access names element e at point x: any if `all`, else one that writes
unfoldable pub names : List ℕ → List Bool → ℕ → ℕ → Bool → ℕ → ℕ → Bool
names ids ws n m all e x = some m (λ k. (all || get_or ws k false) && eqb (number_at ids n k x) e)

-- r is the first number from x on that passes, or n
pub record First (p : ℕ → Bool) (x n r : ℕ) : Type 0 where
  pub after : x ≤ r
  pub inside : r ≤ n
  pub passed : (y : ℕ) → x ≤ y → y < r → p y ≡ false
  pub there : r < n → p r ≡ true

-- a number of an element for each access at each point, and whether each access writes
pub record TableIn (ids : List ℕ) (ws : List Bool) (n m : ℕ) : Type 0 where
  pub few-points : n ≤ most_points
  pub few-accesses : m ≤ most_accesses
  pub numbers : m * n ≤ length ids
  pub writes : m ≤ length ws

-- numbers of elements for which there is a head each
pub record Numbered (ids : List ℕ) (n m elements : ℕ) : Type 0 where
  pub few-points : n ≤ most_points
  pub few-accesses : m ≤ most_accesses
  pub few-elements : elements ≤ most_elements
  pub room : m * n ≤ length ids
  pub below : (k x : ℕ) → k < m → x < n → number_at ids n k x < elements

-- of each element the first point from x on that names it
abbrev pub Heads : List ℕ → List Bool → ℕ → ℕ → Bool → ℕ → List ℕ → Type 0
Heads ids ws n m all x heads = (e : ℕ) → e < length heads → First (names ids ws n m all e) x n (get_or heads e 0)

-- of each access at point y the next point that names its element
abbrev pub LinkedAt : List ℕ → List Bool → ℕ → ℕ → Bool → List ℕ → ℕ → Type 0
LinkedAt ids ws n m all links y =
    (k : ℕ) → k < m → First (names ids ws n m all (number_at ids n k y)) (suc y) n (get_or links (y * m + k) 0)

-- at each point from x on
abbrev pub LinkedFrom : List ℕ → List Bool → ℕ → ℕ → Bool → ℕ → List ℕ → Type 0
LinkedFrom ids ws n m all x links = (y : ℕ) → x ≤ y → y < n → LinkedAt ids ws n m all links y

-- the links of all points: to the next that names an access's element, and to the next that writes it
pub record Links (ids : List ℕ) (ws : List Bool) (n m : ℕ) (named written : List ℕ) : Type 0 where
  pub few-points : n ≤ most_points
  pub few-accesses : m ≤ most_accesses
  pub numbers : m * n ≤ length ids
  pub writes : m ≤ length ws
  pub named-room : n * m ≤ length named
  pub written-room : n * m ≤ length written
  pub to_named : LinkedFrom ids ws n m true 0 named
  pub to-written : LinkedFrom ids ws n m false 0 written
