-- Accesses as flat data, and marks that have every vector which Banerjee's inequalities allow a pair of them.
use Rattle.std.specs.Prelude.{◌≡◌, Bool, false, List, ℕ, ◌*◌, ◌≤◌, ◌<◌, ltb, ℤ, length, get_or}
use Rattle.model.specs.Grammar.{most_statements, array_room}
use Rattle.model.specs.Directions.{kind_count}
use Rattle.nest_flat.specs.Layout.{AccessesOk}
use Rattle.nest_loop_ranges.specs.declared.Range.{Range}
use Rattle.nest_loop_ranges.specs.Ranges.{RangesIn}
use Rattle.dependence_banerjee.specs.Covers.{Covers}
use Rattle.dependence_vectors.specs.Numbers.{place_of, marks_for}
use Rattle.dependence_search.specs.Flat.{kind_of}

-- the words of all accesses, the array of each, the arrays, the loops and their ranges; of each access its statement and whether it writes; how many
-- statements there are
pub record Pairs : Type 0 where
  pub words : List ℤ
  pub accessed : List ℕ
  pub arrays : List ℕ
  pub depth : ℕ
  pub ranges : List Range
  pub statements : List ℕ
  pub writes : List Bool
  pub body : ℕ

abbrev pub pairs : List ℤ → List ℕ → List ℕ → ℕ → List Range → List ℕ → List Bool → ℕ → Pairs
pairs w o a n rs ss ws b = record { words = w; accessed = o; arrays = a; depth = n; ranges = rs; statements = ss; writes = ws; body = b }

-- a mark for each line
pub record PairsIn (F : Pairs) (m : List Bool) : Type 0 where
  pub accesses : AccessesOk F.words F.accessed F.arrays F.depth
  pub ranges : RangesIn F.depth F.ranges
  pub as-many-statements : length F.statements ≡ length F.accessed
  pub as-many-writes : length F.writes ≡ length F.accessed
  pub in-body : (a : ℕ) → a < length F.accessed → get_or F.statements a 0 < F.body
  pub few : F.body ≤ most_statements
  pub room : marks_for F.body ≤ length m

-- access a as the source and access b as the sink
abbrev pub kind_at : Pairs → ℕ → ℕ → ℕ
kind_at F a b = kind_of (get_or F.writes a false) (get_or F.writes b false)

abbrev pub PairCovered : Pairs → List Bool → ℕ → ℕ → Type 0
PairCovered F m a b =
    kind_at F a b < kind_count → get_or F.accessed a 0 ≡ get_or F.accessed b 0
    → Covers F.words a b (get_or F.arrays (get_or F.accessed a 0 * array_room) 0) F.depth F.ranges
    (ltb (get_or F.statements a 0) (get_or F.statements b 0))
    (place_of F.body (get_or F.statements a 0) (get_or F.statements b 0) (kind_at F a b) 0) m

-- with every sink below n
abbrev pub CoveredFrom : Pairs → List Bool → ℕ → ℕ → Type 0
CoveredFrom F m a n = (b : ℕ) → b < n → PairCovered F m a b

-- every source below n, with every sink
abbrev pub CoveredTo : Pairs → List Bool → ℕ → Type 0
CoveredTo F m n = (a : ℕ) → a < n → CoveredFrom F m a (length F.accessed)
