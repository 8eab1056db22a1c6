-- `width`: counted from the one end to the other.
use Rattle.nest_bounding_box.proofs.WidthLaws.{ends-narrow, width_is}
use Rattle.nest_bounding_box.proofs.width.Goals as goal

pub index_count-requires : goal.index_count-requires
index_count-requires c = ends-narrow c.args.r c.requires

pub returns : goal.returns
returns c = width_is c.args.r c.requires c.index_count.result c.index_count.ensures
