-- `all_fit`: the accesses so far are enclosed.
use Prim.Native.Nat.{◌≤◌}
use lib.ListN.{length}
use Rattle.nest_loop_ranges.specs.Ranges.{ranges_of}
use Rattle.nest_bounding_box.specs.Subscripts.{AllEnclosed}
use Rattle.nest_bounding_box.proofs.all_fit.Given as goal

abbrev pub invariant-loop-k : goal.invariant-loop-k
invariant-loop-k l = (l.k ≤ length l.accessed) × AllEnclosed (ranges_of l.n l.ranges) l.words l.accessed l.arrays l.n l.k
