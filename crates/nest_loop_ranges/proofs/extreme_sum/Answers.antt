-- `extreme_sum`: a coefficient goes with the end of its side, and one below 0 with the other end.
use native.Mathlib.Omega.{arith}
use Rattle.nest_loop_ranges.proofs.SumLaws.{nothing_yet, ends-in, next-sum, whole_sum}
use Rattle.nest_loop_ranges.proofs.extreme_sum.Goals as goal

pub loop-i-init : goal.loop-i-init
loop-i-init c = nothing_yet _ _ _ _ _ c.requires

pub plus_term-sum-requires : goal.plus_term-sum-requires
plus_term-sum-requires c = rw (c.end.ensures, c.end-in-loop-i.ensures)
    (ends-in c.args.side _ _ _ _ c.requires _ _ c.loop-i.invariant c.word.ensures c.loop-i-test.true _ _)

pub loop-i-preserved : goal.loop-i-preserved
loop-i-preserved c = next-sum c.args.side _ _ _ _ c.requires _ _ c.loop-i.invariant c.word.ensures c.loop-i-test.true _
    (rw (c.end.ensures, c.end-in-loop-i.ensures, c.other.ensures) at c.plus_term-sum.ensures)

pub returns : goal.returns
returns c = whole_sum _ _ _ _ _ c.requires _ _ c.loop-i.invariant (omega arith)
