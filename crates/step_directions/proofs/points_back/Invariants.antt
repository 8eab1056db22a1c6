-- `points_back`: n is a number of the depth beyond 364, and none that was passed is marked.
use Prim.Native.Nat.{◌-◌, ◌<◌}
use Rattle.model.specs.Directions.{vector_count}
use Rattle.dependence_vectors.proofs.DepthLaws.{OfDepth}
use Rattle.step_directions.proofs.BackLaws.{NoneBack}
use Rattle.step_directions.proofs.points_back.Given as goal

abbrev pub invariant-loop-n : goal.invariant-loop-n
invariant-loop-n l = (364 < l.n) × OfDepth l.depth l.n × NoneBack l.marks l.depth l.n

abbrev pub decreases-loop-n : goal.decreases-loop-n
decreases-loop-n l = vector_count - l.n
