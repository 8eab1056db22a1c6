-- `ranges_in_turn`: one loop's range more.
use mathlib.Core.Path.{refl}
use native.Mathlib.Omega.{arith}
use Rattle.nest_index_range.specs.declared.Side.TheVariants.{Lower, Upper}
use Rattle.nest_loop_ranges.proofs.RangeLaws.{none-held, more-held, extreme-at, loops-before}
use Rattle.nest_loop_ranges.proofs.ranges_in_turn.Goals as goal

pub loop-i-init : goal.loop-i-init
loop-i-init c = none-held _ _ _ refl

pub loop-i-preserved : goal.loop-i-preserved
loop-i-preserved c = let l = c.loop-i in let f = c.requires.shallow in
    let k = loops-before c.args.nest.now c.args.counts.now c.args.n l.i c.requires (omega arith) in
    let x = c.loop_extreme-least.ensures in let y = c.loop_extreme-greatest.ensures in
    more-held _ _ l.i l.r _ _ (omega arith) l.invariant
    (extreme-at _ _ l.i l.i l.r k l.invariant refl Lower x.0, x.1)
    (extreme-at _ _ l.i l.i l.r k l.invariant refl Upper y.0, y.1)
