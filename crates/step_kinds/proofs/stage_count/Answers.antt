-- `stage_count`: one, or those of the chain.
use mathlib.Core.Path.{refl, ◌∙◌}
use Rattle.model.specs.Judge.{stages}
use Rattle.step_kinds.specs.declared.Step.TheVariants.{Exchange, Reversal, Skew, Section}
use Rattle.step_kinds.proofs.StageLaws.{count-one, count-many}
use Rattle.step_kinds.proofs.stage_count.Goals as goal

pub returns-in-Exchange : goal.returns-in-Exchange
unfolding stages
returns-in-Exchange c = count-one c.args.step (Exchange c.in-Exchange.field-0) c.in-Exchange.is refl

pub returns-in-Reversal : goal.returns-in-Reversal
unfolding stages
returns-in-Reversal c = count-one c.args.step (Reversal c.in-Reversal.field-0) c.in-Reversal.is refl

pub returns-in-Skew : goal.returns-in-Skew
unfolding stages
returns-in-Skew c = count-one c.args.step (Skew c.in-Skew.field-0) c.in-Skew.is refl

pub returns-in-Section : goal.returns-in-Section
unfolding stages
returns-in-Section c = count-one c.args.step (Section c.in-Section.field-0) c.in-Section.is refl

pub returns-in-Circulation : goal.returns-in-Circulation
returns-in-Circulation c = c.chain_length.ensures
    ∙ count-many c.args.step c.in-Circulation.e c.in-Circulation.is
