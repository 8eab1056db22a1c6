-- `pass_pair`. The loop's invariant: the records of the source statements before s have come by, and a is the first access of s.
use mathlib.Core.Path.{◌≡◌}
use Prim.Native.Nat.{◌*◌, ◌-◌, ◌≤◌}
use lib.ListN.{length, take}
use Rattle.model.specs.Directions.{kind_count}
use Rattle.model.specs.Store.{sum}
use Rattle.pair_records.specs.Nests.{flat_of}
use Rattle.pair_records.specs.Statements.{block_records}
use Rattle.pair_records.specs.Windows.{batch_room, Passes}
use Rattle.pair_records.proofs.pass_pair.Given as goal

abbrev pub invariant-loop-s : goal.invariant-loop-s
invariant-loop-s l = (l.s ≤ length l.nest.sizes.now) × (length l.found ≡ batch_room) × (l.a ≡ sum (take l.s l.nest.sizes.now))
    × Passes l.initial.w l.initial.found l.w l.found (block_records (flat_of l.nest) l.x l.y 0 (l.s * length l.nest.sizes.now * kind_count))
