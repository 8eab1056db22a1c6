-- `some_gcd_excludes_zero`: one dimension after another.
use Prim.Native.Nat.{◌≤◌}
use Rattle.dependence_banerjee.proofs.some_gcd_excludes_zero.Given as goal

abbrev pub invariant-loop-t : goal.invariant-loop-t
invariant-loop-t l = l.t ≤ l.d
