-- `access_fits`: the subscripts so far are enclosed.
use Prim.Native.Nat.{◌≤◌}
use Rattle.nest_loop_ranges.specs.Ranges.{ranges_of}
use Rattle.nest_bounding_box.specs.Subscripts.{FirstEnclosed}
use Rattle.nest_bounding_box.proofs.access_fits.Given as goal

abbrev pub invariant-loop-d : goal.invariant-loop-d
invariant-loop-d l = (l.d ≤ l.dimensions) × FirstEnclosed (ranges_of l.n l.ranges) l.words l.accessed l.arrays l.n l.k l.d
