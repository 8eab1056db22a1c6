-- `take`: the parts in use are lent stage by stage, and the stages from j on are left.
use Prim.Native.Nat.{◌≤◌}
use lib.ListN.{length, drop}
use Rattle.model.specs.Grammar.{depth_after}
use Rattle.model.specs.Judge.{stages}
use Rattle.step_kinds.specs.Kinds.{step_of}
use Rattle.step_judgement.specs.Judgement.{flat_nest_at}
use Rattle.step_judgement.proofs.StageLaws.{Underway}
use Rattle.step_judgement.proofs.take.Given as goal

abbrev pub invariant-loop-j : goal.invariant-loop-j
invariant-loop-j l =
    (l.j ≤ length (stages (step_of l.step))) × Underway (stages (step_of l.step)) (depth_after (step_of l.step) l.depth) l.number
    (flat_nest_at l.fn.header l.depth l.initial.limits l.initial.counts l.initial.words) (drop l.j (stages (step_of l.step))) (flat_nest_at l.fn.header l.loops l.limits l.counts l.words)
