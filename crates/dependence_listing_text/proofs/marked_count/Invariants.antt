-- `marked_count`. The loop's invariant: k is the number of marked lines before i.
use Prim.Native.Nat.{◌-◌}
use Rattle.dependence_listing_text.proofs.LineLaws.{Counted}
use Rattle.dependence_listing_text.proofs.marked_count.Given as goal

abbrev pub invariant-loop-i : goal.invariant-loop-i
invariant-loop-i l = Counted l.marks l.n l.depth l.k l.i
