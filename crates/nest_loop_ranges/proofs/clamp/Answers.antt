-- `clamp`: the standard library's is the model's cut.
use Rattle.nest_loop_ranges.proofs.CutLaws.{cut-copied}
use Rattle.nest_loop_ranges.proofs.clamp.Goals as goal

pub returns : goal.returns
returns c = let v = c.clamp.ensures in cut-copied _ _ c.requires v.value v.lower_bound v.upper_bound
