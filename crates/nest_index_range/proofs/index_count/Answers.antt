-- `index_count`: 0 where the last index is below the first, else one more than their difference.
use native.Mathlib.Omega.{arith}
use Rattle.nest_index_range.proofs.RangeLaws.{none, difference-fits, difference-cast, one_more, how-many}
use Rattle.nest_index_range.proofs.index_count.Goals as goal

pub overflow_sub-result : goal.overflow_sub-result
overflow_sub-result c = difference-fits c.args.e.lo c.args.e.hi c.requires

pub overflow_cast-result : goal.overflow_cast-result
overflow_cast-result c = difference-cast c.args.e.lo c.args.e.hi c.requires
    c.if-e.false

pub overflow_add-result : goal.overflow_add-result
overflow_add-result c = omega (arith, one_more c.args.e.lo c.args.e.hi c.requires c.if-e.false)

pub returns-then-e : goal.returns-then-e
returns-then-e c = none c.args.e.lo c.args.e.hi c.requires c.if-e.true

pub returns-else-e : goal.returns-else-e
returns-else-e c = how-many c.args.e.lo c.args.e.hi c.requires c.if-e.false
