-- `hurkeztor_sign`: both indices are read back from their bits, and so is the sign.
use Rattle.integers.specs.Sign.{sign}
use Rattle.integers.proofs.RangeLaws.{back}
use Rattle.integers.proofs.SignLaws.{value_read}
use Rattle.hurkeztor.proofs.hurkeztor_sign.Goals as goal

pub returns : goal.returns
returns c = value_read (sign c.args.source c.args.sink) (simp (back, c.ranges.source, c.ranges.sink) at c.sign_of.ensures)
