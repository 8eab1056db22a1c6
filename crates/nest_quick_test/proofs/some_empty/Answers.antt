-- `some_empty`: a range is left by the first that is empty.
use native.Mathlib.Omega.{arith}
use Rattle.nest_loop_ranges.proofs.SumLaws.{range-near}
use Rattle.nest_quick_test.proofs.SearchLaws.{all-ranges-left, empty-found, fewer-ranges-left, no-range-left}
use Rattle.nest_quick_test.proofs.some_empty.Goals as goal

pub loop-i-init : goal.loop-i-init
loop-i-init c = all-ranges-left _ _

pub range_is_empty-requires : goal.range_is_empty-requires
range_is_empty-requires c = range-near _ _ c.requires _ c.loop-i-test.true

pub returns-then-range_is_empty : goal.returns-then-range_is_empty
returns-then-range_is_empty c = empty-found _ _ _ c.requires c.loop-i-test.true c.loop-i.invariant _ c.range_is_empty.ensures c.if-range_is_empty.true

pub loop-i-preserved : goal.loop-i-preserved
loop-i-preserved c = fewer-ranges-left _ _ _ c.requires c.loop-i-test.true c.loop-i.invariant _ c.range_is_empty.ensures c.if-range_is_empty.false

pub returns : goal.returns
returns c = no-range-left _ _ _ (omega arith) c.loop-i.invariant
