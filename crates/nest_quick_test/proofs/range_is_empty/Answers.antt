-- `range_is_empty`: the machine's test of two small numbers.
use Rattle.nest_quick_test.proofs.SearchLaws.{empty-is}
use Rattle.nest_quick_test.proofs.range_is_empty.Goals as goal

pub returns : goal.returns
returns c = empty-is c.args.r c.requires
