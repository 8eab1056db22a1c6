-- `clear_vectors`: filled with no mark, at one number of the depth after another.
use mathlib.Core.Bool.{Bool, false}
use mathlib.Core.List.{List}
use Prim.Native.Nat.{◌-◌}
use Rattle.integers.specs.Sign.{Sign}
use Rattle.model.specs.Directions.{vector_count}
use Rattle.step_directions.proofs.SetLaws.{Filling}
use Rattle.step_directions.proofs.clear_vectors.Given as goal

abbrev pub nothing : List Sign → Bool
nothing v = false

abbrev pub invariant-loop-n : goal.invariant-loop-n
invariant-loop-n l = Filling nothing l.depth l.initial.marks l.marks l.n

abbrev pub decreases-loop-n : goal.decreases-loop-n
decreases-loop-n l = vector_count - l.n
