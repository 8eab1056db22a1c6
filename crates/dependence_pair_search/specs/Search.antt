-- Which marks the conflicts of two accesses set. Points are rows of a store; an access has an element number at each point.
use Rattle.std.specs.Prelude.{◌≡◌, Bool, cond, false, true, ◌&&◌, ◌||◌, List, ℕ, zero, suc, ◌+◌, ◌*◌, ◌≤◌, ◌<◌, eqb, ℤ, length, get_or}
use Rattle.lists.specs.Order.{Ordered}
use Rattle.lists.specs.Parts.{rows}
use Rattle.integers.specs.Sign.{Sign}
use Rattle.model.specs.Inside.{Earlier}
use Rattle.model.specs.Grammar.{most_points, most_loops, most_elements}
use Rattle.model.specs.Directions.{vector_count}
use Rattle.dependence_vectors.specs.Numbers.{number}
use Rattle.dependence_vectors.specs.Candidates.{code, Agree, Steady}

-- some number below n passes
unfoldable pub some : ℕ → (ℕ → Bool) → Bool
some zero p = false
some (suc k) p = p k || some k p

-- ---- chains: from a place to the latest before it with the same element

-- one more than the last place below k that has e, or 0
unfoldable pub latest : List ℕ → ℕ → ℕ → ℕ
latest numbers e zero = 0
latest numbers e (suc k) = cond (eqb (get_or numbers k 0) e) (suc k) (latest numbers e k)

-- the places before y, and y itself if `own`
unfoldable pub up_to : Bool → ℕ → ℕ
up_to own y = cond own (y + 1) y

abbrev pub Below : ℕ → List ℕ → Type 0
Below m numbers = (i : ℕ) → i < length numbers → get_or numbers i 0 < m

-- at each y the last place up to it at which `from` has the element that `to` has at y
abbrev pub Links : List ℕ → List ℕ → Bool → List ℕ → Type 0
Links from to own out = (y : ℕ) → y < length from → get_or out y 0 ≡ latest from (get_or to y 0) (up_to own y)

-- none of n places has a link
abbrev pub Unlinked : ℕ → List ℕ → Type 0
Unlinked n links = (y : ℕ) → y < n → get_or links y 0 ≡ 0

-- the place r is the first of n places from y on that has a link, or n
pub record NextLinked (links : List ℕ) (y n r : ℕ) : Type 0 where
  pub after : y ≤ r
  pub inside : r ≤ n
  pub passed : (k : ℕ) → k < r → y ≤ k → get_or links k 0 ≡ 0
  pub there : r < n → get_or links r 0 ≡ 0 → ⊥

-- no element has a head
abbrev pub Clear : List ℕ → Type 0
Clear head = (e : ℕ) → get_or head e 0 ≡ 0

-- no element has a head but those that `from` has below y
abbrev pub ClearElse : List ℕ → List ℕ → ℕ → Type 0
ClearElse from head y = (e : ℕ) → latest from e y ≡ 0 → get_or head e 0 ≡ 0

-- a head is lent for each element
pub record Linkable (from to head out : List ℕ) : Type 0 where
  pub few : length from ≤ most_points
  pub both : length to ≡ length from
  pub sources : Below (length head) from
  pub sinks : Below (length head) to
  pub heads : length head ≤ most_elements
  pub clear : Clear head
  pub room : length from ≤ length out

-- ---- marks

-- x and y name one element, and the mark of their vector is j
unfoldable pub hit : ℕ → List ℤ → List ℕ → List ℕ → ℕ → ℕ → ℕ → ℕ → Bool
hit d s from to base j y x = eqb (get_or from x 0) (get_or to y 0) && eqb (base + code d s x y) j

-- some sink y below n and some source x up to it set the mark j
unfoldable pub found : ℕ → List ℤ → ℕ → List ℕ → List ℕ → Bool → ℕ → ℕ → Bool
found d s n from to own base j = some n (λ y. some (up_to own y) (hit d s from to base j y))

-- the marks m' are those of m and those that f sets
abbrev pub Adds : List Bool → List Bool → (ℕ → Bool) → Type 0
Adds m m' f = (j : ℕ) → get_or m' j false ≡ (get_or m j false || f j)

-- some place of the chain from l on passes; the chain has at most f places
unfoldable pub along : ℕ → List ℕ → ℕ → (ℕ → Bool) → Bool
along zero next l p = false
along (suc f) next zero p = false
along (suc f) next (suc x) p = p x || along f next (get_or next x 0) p

-- some source of the chain from l on sets the mark j with the sink y
unfoldable pub walked : ℕ → List ℤ → List ℕ → ℕ → ℕ → ℕ → ℕ → Bool
walked d s next base y l j = along l next l (λ x. eqb (base + code d s x y) j)

pub record Walkable (s : List ℤ) (d y first : ℕ) (next : List ℕ) (base : ℕ) (marks : List Bool) : Type 0 where
  pub shallow : d ≤ most_loops
  pub sources : first * d ≤ length s
  pub sink : y * d + d ≤ length s
  pub linked : first ≤ length next
  pub falling : (x : ℕ) → x < first → get_or next x 0 ≤ x
  pub room : base + vector_count ≤ length marks

-- ---- loops that do not vary along chains

-- at each of n points loop k has the index that it has at the point of its link
abbrev pub Level : ℕ → List ℤ → ℕ → List ℕ → ℕ → Type 0
Level d s n links k = (x l : ℕ) → x < n → get_or links x 0 ≡ suc l → Agree d s k l x

-- so it is with every loop below m that does not vary, for the links of the sources and of the sinks
abbrev pub LevelElse : ℕ → List ℤ → ℕ → List ℕ → List ℕ → ℕ → List Bool → Type 0
LevelElse d s n next start m varying = (k : ℕ) → k < m → get_or varying k false ≡ false → Level d s n next k × Level d s n start k

-- n points are stored, and the links of each are to one of them
pub record Tabled (s : List ℤ) (d n : ℕ) (links : List ℕ) : Type 0 where
  pub stored : n * d ≤ length s
  pub table : n ≤ length links
  pub inside : (x : ℕ) → x < n → get_or links x 0 ≤ n

-- ---- all marks that two accesses can set

-- every vector of d loops with a number below v that is = at the loops that do not vary is marked
abbrev pub FullBelow : ℕ → List Bool → ℕ → List Bool → ℕ → Type 0
FullBelow d varying base m v = (u : List Sign) → length u ≡ d → Steady varying u → number u < v → get_or m (base + number u) false ≡ true

-- so is every one that does not point backwards, that of = alone only where it can be
abbrev pub Full : ℕ → List Bool → Bool → ℕ → List Bool → Type 0
Full d varying own base m = FullBelow d varying base m (up_to own 364)

-- from the number v on r is reached by steps of s, and on the way every vector that is = at the loops that do not vary is marked
pub record Passed (varying : List Bool) (base : ℕ) (m : List Bool) (s v r : ℕ) : Type 0 where
  pub steps : ℕ
  pub reached : r ≡ v + steps * s
  pub marked : (u : List Sign) (t : ℕ) → t < steps → length u ≤ most_loops → Steady varying u → number u ≡ v + t * s
      → get_or m (base + number u) false ≡ true

-- ---- what the search of two accesses asks

pub record Searchable (s : List ℤ) (d : ℕ) (from to : List ℕ) (base : ℕ) (marks : List Bool) : Type 0 where
  pub few : length from ≤ most_points
  pub both : length to ≡ length from
  pub shallow : d ≤ most_loops
  pub stored : length from * d ≤ length s
  pub rising : Ordered Earlier (rows d (length from) s)
  pub room : base + vector_count ≤ length marks

-- the links of the sources are there; a head for each element is lent, and room for the links of the sinks
pub record Linked (from next head start : List ℕ) : Type 0 where
  pub nexts : Links from from false next
  pub table : length from ≤ length next
  pub sources : Below (length head) from
  pub heads : length head ≤ most_elements
  pub clear : Clear head
  pub room : length from ≤ length start

-- the links of the sources and of the sinks are there
pub record Followable (from to : List ℕ) (own : Bool) (next start : List ℕ) : Type 0 where
  pub nexts : Links from from false next
  pub starts : Links from to own start
  pub table : length from ≤ length next
  pub room : length from ≤ length start
