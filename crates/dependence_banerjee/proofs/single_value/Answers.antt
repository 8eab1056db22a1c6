-- `single_value`: the value is small.
use Rattle.dependence_banerjee.proofs.MachineLaws.{only-filled}
use Rattle.dependence_banerjee.proofs.single_value.Goals as goal

pub returns : goal.returns
returns c = only-filled c.args.z.value c.requires
