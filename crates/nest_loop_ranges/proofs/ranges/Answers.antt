-- `ranges`: one loop's range more.
use mathlib.Core.Path.{refl}
use native.Mathlib.Omega.{arith}
use Rattle.nest_loop_ranges.proofs.RangeLaws.{none-held, more-held}
use Rattle.nest_loop_ranges.proofs.ranges.Goals as goal

pub loop-i-init : goal.loop-i-init
loop-i-init c = none-held _ _ _ refl

pub loop-i-preserved : goal.loop-i-preserved
loop-i-preserved c = let l = c.loop-i in let f = c.requires.shallow in
    more-held _ _ l.i l.r _ _ (omega arith) l.invariant c.least_value-least.ensures c.greatest_value-greatest.ensures
