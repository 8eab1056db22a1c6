-- `survey_new`: the nest is compact, or the survey's verdict is refusal 13.
use mathlib.Core.Path.{sym, ap, ◌∙◌}
use Rattle.std.specs.Prelude.{Err}
use Rattle.step_judgement.proofs.TicketLaws.{new-admitted, new-far, new-many}
use Rattle.nest_flat.specs.FlatNests.{flat_nest}
use Rattle.step_judgement.proofs.survey_new.Goals as goal

pub returns-then-stays_compact : goal.returns-then-stays_compact
returns-then-stays_compact c = sym (c.stays_compact.ensures c.if-stays_compact.true)

pub returns-in-Ok : goal.returns-in-Ok
returns-in-Ok c = let v = c.survey in new-admitted (flat_nest c.args.nest.now.header.now
    c.args.nest.now.limits.now c.args.nest.now.words.now) v.result
    v.ensures _ c.in-Ok.is

pub returns-in-Err-IndexTooLarge : goal.returns-in-Err-IndexTooLarge
returns-in-Err-IndexTooLarge c = let v = c.survey in let a = c.in-Err-IndexTooLarge in new-far (flat_nest c.args.nest.now.header.now
    c.args.nest.now.limits.now c.args.nest.now.words.now)
    v.result v.ensures _ (a.is ∙ ap Err a.field-0-is)

pub returns-in-Err-CountTooLarge : goal.returns-in-Err-CountTooLarge
returns-in-Err-CountTooLarge c = let v = c.survey in let a = c.in-Err-CountTooLarge in new-many (flat_nest c.args.nest.now.header.now
    c.args.nest.now.limits.now c.args.nest.now.words.now)
    v.result v.ensures _ (a.is ∙ ap Err a.field-0-is)
