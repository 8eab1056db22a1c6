-- `stage_at`: the step itself, or an exchange of the chain.
use mathlib.Core.Path.{refl}
use Rattle.model.specs.Judge.{stages}
use Rattle.step_kinds.specs.declared.Step.TheVariants.{Exchange, Reversal, Skew, Section}
use Rattle.step_kinds.proofs.StageLaws.{stage-one, inside-many, stage-many}
use Rattle.step_kinds.proofs.stage_at.Goals as goal

pub exchange_at-k-requires : goal.exchange_at-k-requires
exchange_at-k-requires c = inside-many c.args.step c.in-Circulation.e c.in-Circulation.is c.args.j c.requires

pub returns-in-Exchange : goal.returns-in-Exchange
unfolding stages
returns-in-Exchange c = stage-one c.args.step (Exchange c.in-Exchange.e) c.in-Exchange.is refl c.args.j c.requires

pub returns-in-Reversal : goal.returns-in-Reversal
unfolding stages
returns-in-Reversal c = stage-one c.args.step (Reversal c.in-Reversal.e) c.in-Reversal.is refl c.args.j c.requires

pub returns-in-Skew : goal.returns-in-Skew
unfolding stages
returns-in-Skew c = stage-one c.args.step (Skew c.in-Skew.e) c.in-Skew.is refl c.args.j c.requires

pub returns-in-Section : goal.returns-in-Section
unfolding stages
returns-in-Section c = stage-one c.args.step (Section c.in-Section.e) c.in-Section.is refl c.args.j c.requires

pub returns-in-Circulation : goal.returns-in-Circulation
returns-in-Circulation c = stage-many c.args.step c.in-Circulation.e c.in-Circulation.is c.args.j c.exchange_at-k.result c.exchange_at-k.ensures
