use Rattle.std.proofs.Common.{rules}
use Rattle.model.specs.Judge.{small}
use Rattle.nest_rows.proofs.small_number.Goals as goal

pub returns : goal.returns
unfolding small
returns c = search rules
