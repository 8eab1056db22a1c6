-- The records of all pairs that trade places, by source point: what a walk through the source points gives.
use Rattle.std.specs.Prelude.{◌≡◌, Bool, ℕ, ◌+◌, ◌≤◌, ◌<◌, ℤ, length}
use mathlib.Core.List.{List, flat_map}
use Rattle.model.specs.Store.{sum}
use Rattle.dependence_search.specs.Flat.{Flat}
use Rattle.pair_partners.specs.Chains.{Links}
use Rattle.pair_partners.specs.Partners.{partners, between, RowsOf}
use Rattle.pair_records.specs.Conflicts.{Ready, records_between}
use Rattle.pair_records.specs.Windows.{batch, Windowed}
use Rattle.pair_records.specs.declared.Walked.{Walked}

-- of source point x; the points are moved to rows of d numbers, by whose order places are traded
unfoldable pub records_from : Flat → ℕ → List ℤ → ℕ → List (List ℤ)
records_from F d s x = flat_map (records_between F x) (partners F.numbers F.writes F.count (length F.statements) d s x)

-- of the source points a ≤ .. < b
unfoldable pub records_of : Flat → ℕ → List ℤ → ℕ → ℕ → List (List ℤ)
records_of F d s a b = flat_map (records_from F d s) (between a b)

-- the flat data of statements of these sizes, of m accesses in all, which of them write, with their links and moved points
pub record Walkable (F : Flat) (sizes : List ℕ) (m d : ℕ) (s : List ℤ) (writes : List Bool) (named written : List ℕ) : Type 0 where
  pub ready : Ready F sizes
  pub all-accesses : sum sizes ≡ m
  pub moved : RowsOf d F.count s
  pub writes_are : writes ≡ F.writes
  pub links-are : Links F.numbers writes F.count m named written

-- a walk from source point `from` on, past `skip` records; another may go on from its last source
pub record Walks (F : Flat) (d : ℕ) (s : List ℤ) (from skip : ℕ) (r : Walked) (found : List ℤ) : Type 0 where
  pub window : Windowed skip (records_of F d s from F.count) r.window found
  pub first : from ≤ r.source
  pub inside : r.source ≤ F.count
  pub before : r.before ≡ length (records_of F d s from r.source)
  -- they came by before the window was full
  pub near : r.before < skip + batch
