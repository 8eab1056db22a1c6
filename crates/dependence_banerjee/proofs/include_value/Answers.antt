-- `include_value`: the lesser end and the greater.
use Rattle.dependence_banerjee.proofs.MachineLaws.{widened}
use Rattle.dependence_banerjee.proofs.include_value.Goals as goal

pub returns : goal.returns
returns c = let l = c.min.ensures in let h = c.max.ensures in widened c.args.r c.args.z.value c.requires
    (l.value, l.self_bound, l.other_bound) (h.value, h.self_bound, h.other_bound)
