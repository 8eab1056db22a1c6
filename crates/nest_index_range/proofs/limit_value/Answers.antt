-- `limit_value`: the limit's words are lent to `affine_at`.
use Rattle.nest_index_range.proofs.LimitLaws.{affine-in, value-is}
use Rattle.nest_index_range.proofs.limit_value.Goals as goal

pub affine_at-requires : goal.affine_at-requires
affine_at-requires c = affine-in c.requires

pub returns : goal.returns
returns c = value-is c.requires c.affine_at.result c.affine_at.ensures
