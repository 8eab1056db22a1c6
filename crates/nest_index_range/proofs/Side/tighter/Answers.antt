-- `tighter`: the standard library's `max` and `min` are the model's.
use borrow.Author.Rules.{rules}
use Rattle.model.specs.Points.{max_z, min_z}
use Rattle.nest_index_range.proofs.Side.tighter.Goals as goal

pub returns-in-Lower : goal.returns-in-Lower
unfolding max_z
returns-in-Lower c = let e = c.max.ensures.value in rw c.in-Lower.is (search rules)

pub returns-in-Upper : goal.returns-in-Upper
unfolding min_z
returns-in-Upper c = let e = c.min.ensures.value in rw c.in-Upper.is (search rules)
