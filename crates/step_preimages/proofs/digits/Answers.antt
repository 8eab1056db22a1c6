-- `digits`: the list as it is written.
use mathlib.Core.Path.{refl}
use Rattle.step_preimages.specs.Numbers.{digits_of}
use Rattle.step_preimages.proofs.digits.Goals as goal

pub returns : goal.returns
unfolding digits_of
returns c = refl
