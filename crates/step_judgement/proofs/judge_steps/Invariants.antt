-- `judge_steps`: the first k steps are judged.
use Rattle.nest_flat.specs.FlatNests.{flat_nest}
use Rattle.step_judgement.specs.Judgement.{flat_nest_at}
use Rattle.step_judgement.proofs.LoopLaws.{SoFar}
use Rattle.step_judgement.proofs.judge_steps.Given as goal

abbrev pub invariant-loop-k : goal.invariant-loop-k
invariant-loop-k l = SoFar
    (record { count = l.count; steps = l.all }) (flat_nest l.header l.initial.limits l.initial.words) l.initial.vectors (flat_nest_at l.header l.depth l.limits l.counts l.words) l.vectors l.k
