-- `loop_extreme`: the tightest limit of the side, cut.
use mathlib.Core.Path.{◌∙◌}
use Rattle.nest_index_range.proofs.LimitLaws.{copied}
use Rattle.nest_loop_ranges.proofs.RangeLaws.{side-in, extreme-cut}
use Rattle.nest_loop_ranges.proofs.loop_extreme.Goals as goal

pub side_extreme-requires : goal.side_extreme-requires
side_extreme-requires c = side-in _ _ _ _ c.requires c.args.side c.place-place.ensures

pub returns : goal.returns
returns c = let v = c.side_extreme.ensures in (
  extreme-cut _ _ _ _ c.args.side c.place-place.ensures (copied _ v.1 ∙ v.0) c.clamp.ensures.0,
  c.clamp.ensures.1,
)
