use Rattle.step_points.proofs.StepsLaws.{step_is}
use Rattle.step_points.proofs.step_at.Goals as goal

pub returns : goal.returns
returns c = step_is c.requires.0 c.args.k c.requires.1
