-- `is_empty`: n is a number of the depth, and none below it is marked.
use Prim.Native.Nat.{◌-◌}
use Rattle.model.specs.Directions.{vector_count}
use Rattle.dependence_vectors.proofs.DepthLaws.{OfDepth}
use Rattle.step_directions.proofs.EmptyLaws.{NoneBelow}
use Rattle.step_directions.proofs.is_empty.Given as goal

abbrev pub invariant-loop-n : goal.invariant-loop-n
invariant-loop-n l = OfDepth l.depth l.n × NoneBelow l.marks l.depth l.n

abbrev pub decreases-loop-n : goal.decreases-loop-n
decreases-loop-n l = vector_count - l.n
