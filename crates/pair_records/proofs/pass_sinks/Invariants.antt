-- `pass_sinks`. The loop's invariant: the records with the sink statements before t have come by, and b is the first access of t.
use mathlib.Core.Path.{◌≡◌}
use Prim.Native.Nat.{◌*◌, ◌-◌, ◌≤◌}
use lib.ListN.{length, take}
use Rattle.model.specs.Directions.{kind_count}
use Rattle.model.specs.Store.{sum}
use Rattle.pair_records.specs.Nests.{flat_of}
use Rattle.pair_records.specs.Statements.{block_records}
use Rattle.pair_records.specs.Windows.{batch_room, Passes}
use Rattle.pair_records.proofs.pass_sinks.Given as goal

abbrev pub invariant-loop-t : goal.invariant-loop-t
invariant-loop-t l = (l.t ≤ length l.nest.sizes.now) × (length l.found ≡ batch_room)
    × (l.b ≡ sum (take l.t l.nest.sizes.now))
    × Passes l.initial.w l.initial.found l.w l.found (block_records (flat_of l.nest) l.source.point l.y (l.source.statement * length l.nest.sizes.now * kind_count) (l.t * kind_count))
