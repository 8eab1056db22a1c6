-- `main`: the divisors are above 0.
use lib.IntN.{pos}
use lib.Signed.{◌<ℤ◌}
use Rattle.test_rounding.proofs.main.Given as goal

abbrev pub invariant-loop-b : goal.invariant-loop-b
invariant-loop-b l = pos 0 <ℤ l.b
