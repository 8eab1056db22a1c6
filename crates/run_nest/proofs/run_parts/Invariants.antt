-- `run_parts`: the points before `first` are passed.
use mathlib.Core.Path.{◌≡◌}
use Prim.Native.Nat.{◌-◌}
use lib.ListN.{length}
use Rattle.nest_flat.specs.FlatNests.{flat}
use Rattle.run_nest.proofs.PartLaws.{Passed}
use Rattle.run_nest.proofs.run_parts.Given as goal

abbrev pub invariant-loop-first : goal.invariant-loop-first
invariant-loop-first l = (length l.numbers ≡ length l.initial.numbers)
    × Passed (flat l.nest) l.points l.count l.initial.store l.store l.first

abbrev pub decreases-loop-first : goal.decreases-loop-first
decreases-loop-first l = l.count - l.first
