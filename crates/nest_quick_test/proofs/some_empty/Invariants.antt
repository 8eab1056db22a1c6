-- `some_empty`: the ranges from i on are left.
use Rattle.nest_quick_test.proofs.SearchLaws.{RangesLeft}
use Rattle.nest_quick_test.proofs.some_empty.Given as goal

abbrev pub invariant-loop-i : goal.invariant-loop-i
invariant-loop-i l = RangesLeft l.ranges l.n l.i
