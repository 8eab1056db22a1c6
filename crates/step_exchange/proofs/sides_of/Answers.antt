use mathlib.Core.Path.{refl}
use Rattle.step_exchange.specs.Pair.{lower_span, upper_span}
use Rattle.step_exchange.proofs.sides_of.Goals as goal

pub returns : goal.returns
unfolding lower_span upper_span
returns c = (refl, refl)
