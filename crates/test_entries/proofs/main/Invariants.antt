-- `main`: case after case.
use Prim.Native.Nat.{◌-◌}
use Rattle.test_entries.proofs.main.Given as goal

abbrev pub invariant-loop : goal.invariant-loop
invariant-loop l = Unit {0}

abbrev pub decreases-loop : goal.decreases-loop
decreases-loop l = 65536 - l.counter
