-- The model's step that a step stands for, and that a stage does.
use Rattle.model.specs.Ticket as Model
use Rattle.step_kinds.specs.declared.Step.{Step}
use Rattle.step_kinds.specs.declared.Step.TheVariants.{Exchange, Reversal, Skew, Section, Circulation}
use Rattle.step_kinds.specs.declared.Stage.{Stage}

abbrev pub step_of : Step → Model.Step
step_of (Exchange e) = Model.exchange e.outer
step_of (Reversal e) = Model.reversal e.target
step_of (Skew e) = Model.skew e.outer e.distance e.factor
step_of (Section e) = Model.section e.target e.width
step_of (Circulation e) = Model.circulation e.from e.to

abbrev pub stage_of : Stage → Model.Step
stage_of (Stage.Exchange e) = Model.exchange e.outer
stage_of (Stage.Reversal e) = Model.reversal e.target
stage_of (Stage.Skew e) = Model.skew e.outer e.distance e.factor
stage_of (Stage.Section e) = Model.section e.target e.width
