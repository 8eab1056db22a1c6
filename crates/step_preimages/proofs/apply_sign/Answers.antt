-- `apply_sign`: the digit as it is, or turned over.
use Rattle.step_preimages.proofs.SourceLaws.{signed-plus, signed-minus}
use Rattle.step_preimages.proofs.apply_sign.Goals as goal

pub returns-then-plus : goal.returns-then-plus
returns-then-plus c = signed-plus c.args.plus c.args.x c.requires c.if-plus.true

pub returns : goal.returns
returns c = signed-minus c.args.plus c.args.x c.requires c.if-plus.false
