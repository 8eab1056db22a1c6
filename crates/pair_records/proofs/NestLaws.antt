-- Laws of a statement at a point of a linked nest, and of the conflicts of two.
use Prim.Native.Nat.{ℕ, ◌+◌, ◌*◌, ◌≤◌, ◌<◌}
use native.Mathlib.Omega.{arith}
use lib.ListN.{length}
use Rattle.model.specs.Directions.{kind_count}
use Rattle.pair_records.specs.Statements.{SpanIn}
use Rattle.pair_records.specs.Nests.{ConflictIn, InstanceIn}
use Rattle.pair_records.specs.declared.Instance.{Instance}
use Rattle.pair_records.specs.declared.nests.LinkedNest.{LinkedNest}
use Rattle.pair_records.proofs.ConflictLaws.{block_inside}
use Rattle.pair_records.proofs.StatementLaws.{statement-ends, statement-span}

module _ (n : LinkedNest) where
  module _ (i : Instance) (h : InstanceIn n i) where
    -- the accesses after the first
    pub reads-span : SpanIn n.count n.numbers.now (i.first + 1) i.end
    reads-span = statement-span n.sizes.now n.count n.numbers.now (length n.sizes.now) n.walkable.ready.accesses
        i.statement i.first i.end h.statement

    pub ends-inside : i.end ≤ n.accesses
    ends-inside = let e = statement-ends n.sizes.now i.statement i.first i.end h.statement in let a = n.walkable.all-accesses in omega arith

    pub first-inside : i.first < n.accesses
    first-inside = let e = ends-inside in let r = reads-span.rising in omega arith

  pub conflict-in : (a b : Instance) → InstanceIn n a → InstanceIn n b → (k : ℕ) → k < kind_count
      → ConflictIn n (record { source = a.point; sink = b.point; block = (a.statement * length n.sizes.now + b.statement) * kind_count + k })
  conflict-in a b h g k l = record {
    source = h.point;
    sink = g.point;
    block = block_inside (length n.sizes.now) a.statement b.statement k h.statement.there g.statement.there l;
  }
