use Rattle.nest_rows.proofs.RowLaws.{number_fits, number-written}
use Rattle.nest_rows.proofs.narrow.Goals as goal

pub overflow_cast-result : goal.overflow_cast-result
overflow_cast-result c = number_fits c.args.x c.requires

pub returns : goal.returns
returns c = number-written c.args.x c.requires
