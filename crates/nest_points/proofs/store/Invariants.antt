-- `store`: the first j elements of the row are written.
use mathlib.Core.Path.{◌≡◌}
use Prim.Native.Nat.{◌≤◌}
use lib.ListN.{length, take}
use Rattle.lists.specs.Parts.{put}
use Rattle.nest_points.proofs.store.Given as goal

abbrev pub invariant-loop-j : goal.invariant-loop-j
invariant-loop-j l = (l.j ≤ length l.row) × (l.out ≡ put l.initial.out l.at (take l.j l.row))
