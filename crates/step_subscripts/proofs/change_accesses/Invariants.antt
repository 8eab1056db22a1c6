-- `change_accesses`: the first k accesses are changed, and all passed.
use Rattle.step_kinds.specs.Kinds.{stage_of}
use Rattle.step_subscripts.proofs.AccessLaws.{Passed}
use Rattle.step_subscripts.proofs.change_accesses.Given as goal

abbrev pub invariant-loop-k : goal.invariant-loop-k
invariant-loop-k l = Passed (stage_of l.stage) l.initial.words l.accessed l.extents l.depth l.words l.k
