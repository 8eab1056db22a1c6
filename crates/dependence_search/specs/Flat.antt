-- The points and accesses of a nest as flat data, the model's statements that they stand for, and what the whole search asks and gives.
use Rattle.std.specs.Prelude.{◌≡◌, Bool, true, false, ◌&&◌, ◌||◌, List, [], ◌∷◌, ◌++◌, map, ℕ, suc, ◌+◌, ◌*◌, ◌≤◌, ◌<◌, eqb, ltb, ℤ, length, take, drop, get_or}
use Rattle.std.specs.Coded.{×_prop, Π_prop, →_prop, Unit-prop}
use lib.Dec.{T_prop}
use Rattle.lists.specs.Membership.{Mem}
use Rattle.lists.specs.Order.{Ordered}
use Rattle.lists.specs.Parts.{rows}
use Rattle.model.specs.Ticket.{Access, Statement}
use Rattle.model.specs.Machine.{same, element, accesses}
use Rattle.model.specs.Directions.{earlier, Line, occurs, all_lines, kind_count}
use Rattle.model.specs.Inside.{Earlier}
use Rattle.model.specs.Grammar.{most_points, most_loops, most_elements}
use Rattle.dependence_vectors.specs.Numbers.{place, place_of, marks_for}
use Rattle.dependence_vectors.specs.Candidates.{row}
use Rattle.dependence_pair_search.specs.Search.{some, found, Clear}

-- ---- flat data

-- points: rows of `depth` indices. Of each access: its element number at each point, one access after the other; its statement; whether it writes.
pub record Flat : Type 0 where
  pub points : List ℤ
  pub depth : ℕ
  pub count : ℕ
  pub numbers : List ℕ
  pub statements : List ℕ
  pub writes : List Bool
  pub body : ℕ

abbrev pub flat : List ℤ → ℕ → ℕ → List ℕ → List ℕ → List Bool → ℕ → Flat
flat p d n e s w b = record { points = p; depth = d; count = n; numbers = e; statements = s; writes = w; body = b }

abbrev pub number_at : Flat → ℕ → ℕ → ℕ
number_at F a x = get_or F.numbers (a * F.count + x) 0

abbrev pub statement_of : Flat → ℕ → ℕ
statement_of F a = get_or F.statements a 0

abbrev pub writes_at : Flat → ℕ → Bool
writes_at F a = get_or F.writes a false

abbrev pub point_at : Flat → ℕ → List ℤ
point_at F x = row F.depth F.points x

abbrev pub points_of : Flat → List (List ℤ)
points_of F = rows F.depth F.count F.points

-- ---- the model's statements

pub record Use : Type 0 where
  pub statement : ℕ
  pub writes : Bool
  pub access : Access

abbrev pub use·of : ℕ → Bool → Access → Use
use·of k w a = record { statement = k; writes = w; access = a }

-- the accesses of the statements in ticket order; the first statement has number k
unfoldable pub uses_from : ℕ → List Statement → List Use
uses_from k [] = []
uses_from k (s ∷ ss) = (map (use·of k true) s.writes ++ map (use·of k false) s.reads) ++ uses_from (suc k) ss

abbrev pub uses : List Statement → List Use
uses ss = uses_from 0 ss

abbrev pub no_use : Use
no_use = use·of 0 false (record { array = 0; subscripts = [] })

unfoldable pub use_at : List Statement → ℕ → Use
use_at ss a = get_or (uses ss) a no_use

-- the flat data are those of the statements ss: equal numbers are equal elements
pub record Describes (ss : List Statement) (F : Flat) : Type 0 where
  pub body : F.body ≡ length ss
  pub statements : F.statements ≡ map (λ (u : Use). u.statement) (uses ss)
  pub writes : F.writes ≡ map (λ (u : Use). u.writes) (uses ss)
  pub elements : (a b x y : ℕ) → a < length (uses ss) → b < length (uses ss) → x < F.count → y < F.count
      → eqb (number_at F a x) (number_at F b y) ≡ same (element (point_at F x) (use_at ss a).access) (element (point_at F y) (use_at ss b).access)

-- ---- what the search asks and gives

-- the points are stored, and each access has a statement of the body and numbers
pub record FlatIn (F : Flat) : Type 0 where
  pub few : F.count ≤ most_points
  pub shallow : F.depth ≤ most_loops
  pub stored : F.count * F.depth ≤ length F.points
  pub both : length F.writes ≡ length F.statements
  pub in_body : (a : ℕ) → a < length F.statements → statement_of F a < F.body
  pub table : length F.statements * F.count ≤ length F.numbers

-- that points are in order has at most one proof
pub rising-prop : (l : List (List ℤ)) → IsProp (Ordered Earlier l)
rising-prop [] = Unit-prop
rising-prop (p ∷ l) = ×_prop (Π_prop (λ q. →_prop (T_prop (earlier p q)))) (rising-prop l)

-- the same, the points in order, and room for all marks
pub record Ready (F : Flat) (marks : List Bool) : Type 0 where
  pub few : F.count ≤ most_points
  pub shallow : F.depth ≤ most_loops
  pub stored : F.count * F.depth ≤ length F.points
  pub rising : Ordered Earlier (points_of F)
  pub both : length F.writes ≡ length F.statements
  pub in_body : (a : ℕ) → a < length F.statements → statement_of F a < F.body
  pub table : length F.statements * F.count ≤ length F.numbers
  pub room : marks_for F.body ≤ length marks

-- every number is below m, of which there are no more than elements
pub record NumbersBelow (m : ℕ) (F : Flat) : Type 0 where
  pub few : m ≤ most_elements
  pub below : (a x : ℕ) → a < length F.statements → x < F.count → number_at F a x < m

-- the mark of every line that there could be is set if the model says that it occurs, and no other mark changes
pub record Searched (F : Flat) (m m' : List Bool) : Type 0 where
  pub lines : (ss : List Statement) → Describes ss F → (l : Line) → Mem l (all_lines F.body F.depth)
      → get_or m' (place F.body l) false ≡ (get_or m (place F.body l) false || occurs (accesses ss) (points_of F) l)
  pub others : (j : ℕ) → ((l : Line) → Mem l (all_lines F.body F.depth) → place F.body l ≡ j → ⊥) → get_or m' j false ≡ get_or m j false

-- ---- the same as the search goes: one source access and one sink access set marks by their place

-- of whether the source writes and whether the sink does: kind_count is no conflict
abbrev pub kind_of : Bool → Bool → ℕ
kind_of true false = 0
kind_of false true = 1
kind_of true true = 2
kind_of false false = kind_count

-- the element numbers of access a at n points
unfoldable pub numbers_of : ℕ → List ℕ → ℕ → List ℕ
numbers_of n numbers a = take n (drop (a * n) numbers)

unfoldable pub set_by : Flat → ℕ → ℕ → ℕ → Bool
set_by F a b j = ltb (kind_of (writes_at F a) (writes_at F b)) kind_count
    && found F.depth F.points F.count (numbers_of F.count F.numbers a) (numbers_of F.count F.numbers b)
    (ltb (statement_of F a) (statement_of F b))
    (place_of F.body (statement_of F a) (statement_of F b) (kind_of (writes_at F a) (writes_at F b)) 0) j

-- with all sinks
unfoldable pub set_from : Flat → ℕ → ℕ → Bool
set_from F a j = some (length F.statements) (λ b. set_by F a b j)

-- ---- accesses that are searched once

-- two accesses of one statement that name the same elements in the same way
pub record Alike (n : ℕ) (numbers statements : List ℕ) (writes : List Bool) (a b : ℕ) : Type 0 where
  pub statement : get_or statements a 0 ≡ get_or statements b 0
  pub way : get_or writes a false ≡ get_or writes b false
  pub elements : numbers_of n numbers a ≡ numbers_of n numbers b

-- ---- what is lent for links

-- room for the links of the sources and of the sinks, and a head for each element, of which none is there
pub record Lent (F : Flat) (next head start : List ℕ) : Type 0 where
  pub nexts : F.count ≤ length next
  pub heads : NumbersBelow (length head) F
  pub clear : Clear head
  pub starts : F.count ≤ length start
