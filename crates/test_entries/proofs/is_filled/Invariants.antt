-- `is_filled`: byte after byte.
use Prim.Native.Nat.{◌-◌}
use Rattle.test_entries.proofs.is_filled.Given as goal

abbrev pub invariant-loop-i : goal.invariant-loop-i
invariant-loop-i l = Unit {0}
