-- `names`. The loop's invariant: no access from `from` up to k names the element.
use mathlib.Core.Path.{◌≡◌}
use mathlib.Core.Bool.{false}
use Prim.Native.Nat.{◌-◌, ◌≤◌}
use Rattle.pair_records.specs.Statements.{named_in}
use Rattle.pair_records.proofs.names.Given as goal

abbrev pub invariant-loop-k : goal.invariant-loop-k
invariant-loop-k l = (l.from ≤ l.k) × (l.k ≤ l.end) × (named_in l.nest.count l.nest.numbers.now l.from l.k l.x l.e ≡ false)
