-- `never_zero`: by the divisor, or by the range.
use mathlib.Core.Path.{ap}
use mathlib.Core.Bool.{not}
use Rattle.nest_loop_ranges.specs.Ranges.{ranges_of}
use Rattle.nest_quick_test.proofs.DifferenceLaws.{divisor-asks, never-divided, never-reached}
use Rattle.nest_quick_test.proofs.never_zero.Goals as goal

pub divides-requires : goal.divides-requires
divides-requires c = divisor-asks c.constant_difference-c.result.value c.constant_difference-c.ensures.1

pub returns-then-not-divides : goal.returns-then-not-divides
returns-then-not-divides c = let d = c.constant_difference-c in let g = c.common_divisor-g in let t = c.divides in
    never-divided c.args.words.now c.args.n c.args.u c.args.v (ranges_of c.args.n c.args.ranges) g.result
    d.result.value t.result g.ensures d.ensures t.ensures (ap not c.if-not-divides.true)

pub returns : goal.returns
returns c = let d = c.constant_difference-c in let g = c.common_divisor-g in let t = c.divides in let x = c.extreme_difference-least in let y = c.extreme_difference-greatest in
    never-reached c.args.words.now c.args.n c.args.u c.args.v (ranges_of c.args.n c.args.ranges) g.result
    d.result.value t.result g.ensures d.ensures t.ensures (ap not c.if-not-divides.false)
    x.result.value y.result.value c.excludes_zero.result x.ensures.0 y.ensures.0 c.excludes_zero.ensures
