-- `set_after`: filled from where each vector comes from, at one number of the new depth after another.
use mathlib.Core.Bool.{false}
use Prim.Native.Nat.{◌-◌}
use lib.ListN.{replicate}
use Rattle.model.specs.Directions.{vector_count}
use Rattle.step_kinds.specs.Kinds.{step_of}
use Rattle.step_directions.specs.Preimages.{came}
use Rattle.step_directions.proofs.SetLaws.{Filling}
use Rattle.step_directions.proofs.set_after.Given as goal

abbrev pub invariant-loop-n : goal.invariant-loop-n
invariant-loop-n l = Filling (came l.old (step_of l.step)) l.depth (replicate vector_count false) l.marks l.n

abbrev pub decreases-loop-n : goal.decreases-loop-n
decreases-loop-n l = vector_count - l.n
