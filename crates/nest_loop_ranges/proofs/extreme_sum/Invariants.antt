-- `extreme_sum`: the sum so far is that of the first i terms.
use Rattle.nest_loop_ranges.proofs.SumLaws.{SoFar}
use Rattle.nest_loop_ranges.proofs.extreme_sum.Given as goal

abbrev pub invariant-loop-i : goal.invariant-loop-i
invariant-loop-i l = SoFar l.side l.words l.at l.n l.ranges l.i l.sum.value
