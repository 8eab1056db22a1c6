-- `walk`. The loop's invariant: the records of the source points from `from` to x have come by.
use mathlib.Core.Path.{◌≡◌}
use Prim.Native.Nat.{◌-◌}
use lib.ListN.{length}
use Rattle.pair_records.specs.Nests.{flat_of}
use Rattle.pair_records.proofs.WalkLaws.{Walking}
use Rattle.pair_records.proofs.walk.Given as goal

abbrev pub invariant-loop-x : goal.invariant-loop-x
invariant-loop-x l = Walking (flat_of l.nest) l.nest.moved_depth l.nest.moved.now l.from l.skip l.x l.w l.source l.before l.found
    × (length l.partners ≡ length l.initial.partners)
