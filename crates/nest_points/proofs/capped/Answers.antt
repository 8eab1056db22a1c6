use mathlib.Core.Path.{◌∙◌}
use Rattle.nest_points.proofs.TallyLaws.{min-capped}
use Rattle.nest_points.proofs.capped.Goals as goal

pub returns : goal.returns
returns c = c.min.ensures ∙ min-capped c.args.most c.args.n
