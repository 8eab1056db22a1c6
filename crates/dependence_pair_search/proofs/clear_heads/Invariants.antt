-- `clear_heads`. The loop's invariant: no element has a head but those that `from` has below y.
use mathlib.Core.Path.{◌≡◌}
use Prim.Native.Nat.{◌≤◌}
use lib.ListN.{length}
use Rattle.dependence_pair_search.specs.Search.{ClearElse}
use Rattle.dependence_pair_search.proofs.clear_heads.Given as goal

abbrev pub invariant-loop-y : goal.invariant-loop-y
invariant-loop-y l = (l.y ≤ length l.from) × (length l.head ≡ length l.initial.head) × ClearElse l.from l.head l.y
