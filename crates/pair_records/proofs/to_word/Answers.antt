-- `to_word`: 16 bits hold the number.
use Rattle.pair_records.proofs.RecordLaws.{narrowed}
use Rattle.pair_records.proofs.to_word.Goals as goal

pub overflow_cast-result : goal.overflow_cast-result
overflow_cast-result c = (narrowed c.args.x c.requires).0

pub returns : goal.returns
returns c = (narrowed c.args.x c.requires).1
