-- `ranges`: the array holds the ranges of the loops so far.
use Rattle.nest_loop_ranges.specs.Values.{RangesAre}
use Rattle.nest_loop_ranges.proofs.ranges.Given as goal

abbrev pub invariant-loop-i : goal.invariant-loop-i
invariant-loop-i l = RangesAre l.nest l.counts l.i l.r
