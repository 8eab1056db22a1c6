-- `coefficient`: the sum so far is that of the first t subscripts.
use mathlib.Core.Path.{◌≡◌}
use Rattle.dependence_banerjee.specs.Sums.{coefficient_sum}
use Rattle.dependence_banerjee.proofs.coefficient.Given as goal

abbrev pub invariant-loop-t : goal.invariant-loop-t
invariant-loop-t l = l.sum ≡ coefficient_sum l.words l.i l.k l.t
