-- The conflicts of two points, statement by statement: a statement's accesses stand side by side, and the first of them is written.
use Rattle.std.specs.Prelude.{◌≡◌, Bool, ◌&&◌, List, map, ℕ, zero, suc, ◌+◌, ◌*◌, ◌≤◌, ◌<◌, eqb, leb, ℤ, length, get_or, take}
use Rattle.lists.specs.Tests.{select}
use Rattle.model.specs.Grammar.{most_points, most_accesses}
use Rattle.model.specs.Directions.{kind_count, up_from}
use Rattle.model.specs.Store.{sum}
use Rattle.dependence_pair_search.specs.Search.{some}
use Rattle.dependence_search.specs.Flat.{Flat}
use Rattle.pair_records.specs.Conflicts.{record_words, clashes}

-- Of n points the numbers ids of the elements.
module _ (n : ℕ) (ids : List ℕ) where
  -- an access from a up to e names element i at point x
  unfoldable pub named_in : ℕ → ℕ → ℕ → ℕ → Bool
  named_in a e x i = some e (λ k. leb a k && eqb (get_or ids (k * n + x) 0) i)

  -- the statement of the accesses from a up to a' at point x and that of those from b up to b' at point y, by the kind: flow, anti, output
  unfoldable pub conflicts : ℕ → ℕ → ℕ → ℕ → ℕ → ℕ → ℕ → Bool
  conflicts x y a a' b b' zero = named_in (b + 1) b' y (get_or ids (a * n + x) 0)
  conflicts x y a a' b b' (suc zero) = named_in (a + 1) a' x (get_or ids (b * n + y) 0)
  conflicts x y a a' b b' (suc (suc k)) = eqb (get_or ids (a * n + x) 0) (get_or ids (b * n + y) 0)

-- the accesses of statement s of these sizes are those from a up to e
pub record StatementAt (sizes : List ℕ) (s a e : ℕ) : Type 0 where
  pub there : s < length sizes
  pub first : a ≡ sum (take s sizes)
  pub past : e ≡ a + get_or sizes s 0

-- accesses from a up to e at n points
pub record SpanIn (n : ℕ) (ids : List ℕ) (a e : ℕ) : Type 0 where
  pub rising : a ≤ e
  pub few-points : n ≤ most_points
  pub few-accesses : e ≤ most_accesses
  pub table : e * n ≤ length ids

-- ---- records

-- of statement s at point x and statement t at point y
unfoldable pub statement_records : List ℤ → ℕ → ℕ → List ℕ → ℕ → ℕ → ℕ → ℕ → ℕ → ℕ → ℕ → ℕ → ℕ → List (List ℤ)
statement_records p d n ids m x y s t a a' b b' =
    map (λ k. record_words p d m x y ((s * m + t) * kind_count + k)) (select (conflicts n ids x y a a' b b') (up_from 0 kind_count))

-- of k blocks from block j on
unfoldable pub block_records : Flat → ℕ → ℕ → ℕ → ℕ → List (List ℤ)
block_records F x y j k =
    map (record_words F.points F.depth F.body x y)
    (select (clashes F.count F.numbers F.statements F.writes F.body x y) (up_from j k))
