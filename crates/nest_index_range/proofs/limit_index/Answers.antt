-- `limit_index`: the limit's value, divided and rounded.
use Rattle.nest_index_range.specs.Ranges.{allowed}
use Rattle.nest_index_range.proofs.LimitLaws.{quotient_is}
use Rattle.nest_index_range.proofs.limit_index.Goals as goal

pub returns : goal.returns
unfolding allowed
returns c = quotient_is c.requires c.word.ensures c.args.side c.limit_value.result c.divide.result c.limit_value.ensures c.divide.ensures
