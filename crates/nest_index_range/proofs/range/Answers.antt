-- `range`: both sides of the loop.
use Rattle.nest_index_range.specs.declared.Side.TheVariants.{Lower, Upper}
use Rattle.nest_index_range.proofs.RangeLaws.{end-in, ranged}
use Rattle.nest_index_range.proofs.range.Goals as goal

pub end_index-requires : goal.end_index-requires
end_index-requires c = end-in Lower c.requires

pub end_index-requires-2 : goal.end_index-requires-2
end_index-requires-2 c = end-in Upper c.requires

pub returns : goal.returns
returns c = ranged _ _ _ c.end_index.ensures c.end_index-2.ensures
