-- `pass_partners`. The loop's invariant: the records with the first i partners have come by.
use mathlib.Core.Path.{◌≡◌}
use mathlib.Core.List.{flat_map}
use Prim.Native.Nat.{◌-◌, ◌≤◌}
use lib.ListN.{length, take}
use Rattle.pair_records.specs.Nests.{flat_of}
use Rattle.pair_records.specs.Conflicts.{records_between}
use Rattle.pair_records.specs.Windows.{batch_room, Passes}
use Rattle.pair_records.proofs.pass_partners.Given as goal

abbrev pub invariant-loop-i : goal.invariant-loop-i
invariant-loop-i l = (l.i ≤ length l.partners) × (length l.found ≡ batch_room)
    × Passes l.initial.w l.initial.found l.w l.found (flat_map (records_between (flat_of l.nest) l.x) (take l.i l.partners))
