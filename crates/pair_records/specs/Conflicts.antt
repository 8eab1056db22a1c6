-- The conflicts of two points, and their records. Of a source statement s, a sink statement t and a kind k of n statements, the block is
-- (s * n + t) * kind_count + k.
use Rattle.std.specs.Prelude.{◌≡◌, Bool, false, ◌&&◌, List, [], ◌∷◌, ◌++◌, map, ℕ, suc, ◌+◌, ◌*◌, ◌/◌, ◌%◌, ◌≤◌, eqb, ltb, ℤ, pos, length, get_or}
use Rattle.std.specs.Coded.{×_prop, Unit-prop, le_prop}
use Rattle.lists.specs.Membership.{All}
use Rattle.lists.specs.Tests.{select}
use Rattle.lists.specs.Parts.{rows}
use Rattle.integers.specs.Affine.{Within}
use Rattle.model.specs.Grammar.{most_points, most_accesses, most_statements, ticket_loops}
use Rattle.model.specs.Directions.{kinds, kind_count, flow, up_from}
use Rattle.model.specs.Listing.{letter}
use Rattle.model.specs.Pairs.{indices_in}
use Rattle.model.specs.Store.{sum}
use Rattle.dependence_pair_search.specs.Search.{some}
use Rattle.dependence_vectors.specs.Candidates.{row}
use Rattle.dependence_search.specs.Flat.{Flat, flat, kind_of}
use Rattle.dependence_marks.specs.Uses.{statement_numbers, written_in}

unfoldable pub block_count : ℕ → ℕ
block_count n = n * n * kind_count

-- Of n points the numbers ids of the elements; of each access its statement, ss, and whether it writes, ws; m statements.
module _ (n : ℕ) (ids ss : List ℕ) (ws : List Bool) (m : ℕ) where
  abbrev pub kind_at : ℕ → ℕ → ℕ
  kind_at a b = kind_of (get_or ws a false) (get_or ws b false)

  -- the block of two accesses
  unfoldable pub block_of : ℕ → ℕ → ℕ
  block_of a b = (get_or ss a 0 * m + get_or ss b 0) * kind_count + kind_at a b

  -- access a at point x and access b at point y name one element, one of them writes, and their block is j
  unfoldable pub meets : ℕ → ℕ → ℕ → ℕ → ℕ → Bool
  meets x y j a b = eqb (get_or ids (a * n + x) 0) (get_or ids (b * n + y) 0) && (ltb (kind_at a b) kind_count && eqb (block_of a b) j)

  -- some two accesses do
  unfoldable pub clashes : ℕ → ℕ → ℕ → Bool
  clashes x y j = some (length ss) (λ a. some (length ss) (meets x y j a))

-- ---- records, as words: the indices of both points, both statements from 1, the kind's letter

abbrev pub record_room : ℕ
record_room = 11

-- block j of the points x and y, which stand in s as rows of d indices
unfoldable pub record_words : List ℤ → ℕ → ℕ → ℕ → ℕ → ℕ → List ℤ
record_words s d m x y j =
    indices_in (row d s x) ++ (indices_in (row d s y)
    ++ (pos (suc (j / kind_count / m)) ∷ pos (suc (j / kind_count % m)) ∷ pos (letter (get_or kinds (j % kind_count) flow)) ∷ []))

-- those of two points, by source statement, sink statement and kind
unfoldable pub records_between : Flat → ℕ → ℕ → List (List ℤ)
records_between F x y =
    map (record_words F.points F.depth F.body x y)
    (select (clashes F.count F.numbers F.statements F.writes F.body x y) (up_from 0 (block_count F.body)))

-- ---- what is asked of the flat data

-- accesses of m statements of these sizes at n points
pub record AccessesIn (n : ℕ) (ids sizes : List ℕ) (m : ℕ) : Type 0 where
  pub few-points : n ≤ most_points
  pub few-accesses : sum sizes ≤ most_accesses
  pub few-statements : m ≤ most_statements
  pub statements : length sizes ≡ m
  pub each : All (λ k. 1 ≤ k) sizes
  pub table : sum sizes * n ≤ length ids

-- that a point is near has at most one proof
pub within-prop : (m : ℕ) (p : List ℤ) → IsProp (Within m p)
within-prop m [] = Unit-prop
within-prop m (x ∷ p) = ×_prop le_prop (within-prop m p)

-- points of at most four indices, each of which a record can hold
pub record PointsIn (s : List ℤ) (d n : ℕ) : Type 0 where
  pub few-points : n ≤ most_points
  pub shallow : d ≤ ticket_loops
  pub stored : n * d ≤ length s
  pub near : All (Within 32767) (rows d n s)

-- the flat data of m statements of these sizes, of each of which the first access is written
abbrev pub sized : List ℤ → ℕ → ℕ → List ℕ → List ℕ → ℕ → Flat
sized s d n ids sizes m = flat s d n ids (statement_numbers 0 sizes) (written_in sizes) m

pub record Ready (F : Flat) (sizes : List ℕ) : Type 0 where
  pub accesses : AccessesIn F.count F.numbers sizes F.body
  pub points : PointsIn F.points F.depth F.count
