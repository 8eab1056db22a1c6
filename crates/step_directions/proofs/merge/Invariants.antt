-- `merge`: filled with what either has, at one number of the depth after another.
use mathlib.Core.Bool.{Bool, ◌||◌}
use mathlib.Core.List.{List}
use Prim.Native.Nat.{◌-◌}
use Rattle.integers.specs.Sign.{Sign}
use Rattle.model.specs.Directions.{vector_count}
use Rattle.step_preimages.specs.Numbers.{marked}
use Rattle.step_directions.proofs.SetLaws.{Filling}
use Rattle.step_directions.proofs.merge.Given as goal

abbrev pub both : List Bool → List Bool → List Sign → Bool
both marks row v = marked marks v || marked row v

abbrev pub invariant-loop-n : goal.invariant-loop-n
invariant-loop-n l = Filling (both l.initial.marks l.row) l.depth l.initial.marks l.marks l.n

abbrev pub decreases-loop-n : goal.decreases-loop-n
decreases-loop-n l = vector_count - l.n
