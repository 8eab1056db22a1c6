-- `unsigned`: the number is not negative.
use Rattle.entry_reason.proofs.PairLaws.{unsigned-cast, unsigned-result}
use Rattle.entry_reason.proofs.unsigned.Goals as goal

pub overflow_cast-result : goal.overflow_cast-result
overflow_cast-result c = unsigned-cast c.args.x c.requires.0 c.requires.1 c.ranges.x

pub returns : goal.returns
returns c = unsigned-result c.args.x c.requires.0 c.requires.1 c.ranges.x
