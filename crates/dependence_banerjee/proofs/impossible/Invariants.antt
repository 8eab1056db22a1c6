-- `impossible`: no iterations, one dimension, the sum of all, or a common divisor.
use Prim.Native.Nat.{◌≤◌}
use Rattle.dependence_banerjee.proofs.impossible.Given as goal

abbrev pub invariant-loop-t : goal.invariant-loop-t
invariant-loop-t l = l.t ≤ l.d
