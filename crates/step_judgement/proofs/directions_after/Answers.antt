-- `directions_after`: no vectors give none, and others go by the step.
use mathlib.Core.Path.{subst}
use Prim.Native.Nat.{ℕ}
use Rattle.step_kinds.specs.Kinds.{step_of}
use Rattle.step_directions.specs.Sets.{Empty}
use Rattle.step_directions.proofs.EmptyLaws.{after_none}
use Rattle.step_judgement.proofs.StepLaws.{vectors-are}
use Rattle.step_judgement.proofs.directions_after.Goals as goal

pub returns-then-is_empty : goal.returns-then-is_empty
returns-then-is_empty c =
    let d = c.depth_after in
    let r = c.empty in
    vectors-are c.args.set c.args.step c.requires r.result
    (after_none (step_of c.args.step) c.args.set r.result (c.is_empty.ensures c.if-is_empty.true)
    (subst (λ (n : ℕ). Empty n r.result) d.ensures r.ensures))

pub returns : goal.returns
returns c =
    vectors-are c.args.set c.args.step c.requires c.set_after.result c.set_after.ensures
