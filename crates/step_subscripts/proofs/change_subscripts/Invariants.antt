-- `change_subscripts`: the first d of them are changed, and all passed.
use Prim.Native.Nat.{◌≤◌}
use Rattle.step_kinds.specs.Kinds.{stage_of}
use Rattle.step_subscripts.specs.After.{Changed}
use Rattle.step_subscripts.proofs.change_subscripts.Given as goal

abbrev pub invariant-loop-d : goal.invariant-loop-d
invariant-loop-d l = (l.d ≤ l.count) × Changed (stage_of l.stage) l.initial.words l.n l.first l.d l.words
