-- `outside`: the first end below, or the last above.
use mathlib.Core.Path.{◌∙◌}
use Rattle.nest_points.proofs.TallyLaws.{bound-negated, low-outside, high-outside}
use Rattle.nest_points.proofs.outside.Goals as goal

pub overflow_sub-b : goal.overflow_sub-b
overflow_sub-b c = bound-negated c.args.bound c.args.e.lo c.args.e.hi c.requires

pub returns-then-e-b : goal.returns-then-e-b
returns-then-e-b c = c.if-e-b.true ∙ low-outside c.args.bound c.args.e.lo c.args.e.hi c.requires c.if-e-b.true

pub returns-else-e-b : goal.returns-else-e-b
returns-else-e-b c = high-outside c.args.bound c.args.e.lo c.args.e.hi c.requires
    c.if-e-b.false
