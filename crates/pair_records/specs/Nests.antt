-- What the records of a linked nest are, and of what they are asked.
use Rattle.std.specs.Prelude.{List, ℕ, ℤ, ◌<◌, length}
use Rattle.dependence_search.specs.Flat.{Flat}
use Rattle.pair_records.specs.Conflicts.{block_count, record_words, sized}
use Rattle.pair_records.specs.Statements.{StatementAt, statement_records}
use Rattle.pair_records.specs.declared.Conflict.{Conflict}
use Rattle.pair_records.specs.declared.Instance.{Instance}
use Rattle.pair_records.specs.declared.nests.LinkedNest.{LinkedNest}

abbrev pub flat_of : LinkedNest → Flat
flat_of n = sized n.points.now n.depth n.count n.numbers.now n.sizes.now (length n.sizes.now)

-- both points are there, and so is the block
pub record ConflictIn (n : LinkedNest) (c : Conflict) : Type 0 where
  pub source : c.source < n.count
  pub sink : c.sink < n.count
  pub block : c.block < block_count (length n.sizes.now)

abbrev pub words_of : LinkedNest → Conflict → List ℤ
words_of n c = record_words n.points.now n.depth (length n.sizes.now) c.source c.sink c.block

-- the point is there, and the accesses are those of the statement
pub record InstanceIn (n : LinkedNest) (i : Instance) : Type 0 where
  pub point : i.point < n.count
  pub statement : StatementAt n.sizes.now i.statement i.first i.end

abbrev pub records_at : LinkedNest → Instance → Instance → List (List ℤ)
records_at n a b = statement_records n.points.now n.depth n.count n.numbers.now (length n.sizes.now) a.point b.point
    a.statement b.statement a.first a.end b.first b.end
