-- `depth_after_stage`: a section adds a loop.
use mathlib.Core.Path.{sym, ap, ◌∙◌}
use native.Mathlib.Numerals.{add-one}
use Rattle.model.specs.Grammar.{depth_after}
use Rattle.step_kinds.specs.Kinds.{stage_of}
use Rattle.step_kinds.proofs.depth_after_stage.Goals as goal

pub returns-in-Exchange : goal.returns-in-Exchange
unfolding depth_after
returns-in-Exchange c = sym (ap (λ x. depth_after (stage_of x) c.args.depth) c.in-Exchange.is)

pub returns-in-Reversal : goal.returns-in-Reversal
unfolding depth_after
returns-in-Reversal c = sym (ap (λ x. depth_after (stage_of x) c.args.depth) c.in-Reversal.is)

pub returns-in-Skew : goal.returns-in-Skew
unfolding depth_after
returns-in-Skew c = sym (ap (λ x. depth_after (stage_of x) c.args.depth) c.in-Skew.is)

pub returns-in-Section : goal.returns-in-Section
unfolding depth_after
returns-in-Section c = add-one _ ∙ sym (ap (λ x. depth_after (stage_of x) c.args.depth) c.in-Section.is)
