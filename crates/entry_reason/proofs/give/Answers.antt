-- `give`: the row of the next record.
use mathlib.Core.Path.{ap}
use Rattle.entry_reason.specs.Finders.{gave}
use Rattle.entry_reason.proofs.give.Goals as goal

pub returns : goal.returns
returns c = λ r h. ap (gave c.args.f) (c.pair_at-pair.ensures r h)
