-- `extreme_difference`: the extreme of u less the other extreme of v.
use Rattle.nest_quick_test.proofs.DifferenceLaws.{difference-is}
use Rattle.nest_quick_test.proofs.extreme_difference.Goals as goal

pub returns : goal.returns
returns c = (
  difference-is _ _ _ _ _ c.requires c.args.side c.constant_difference-c.ensures.0 c.extreme_sum-e.ensures.0
      (rw c.other.ensures at c.extreme_sum-f.ensures.0) c.plus_difference.ensures.0,
  c.plus_difference.ensures.1,
)
