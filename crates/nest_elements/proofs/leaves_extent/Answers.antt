-- `leaves_extent`: below 0, or not below the extent.
use mathlib.Core.Path.{◌∙◌}
use Rattle.nest_elements.proofs.SubscriptLaws.{off-below, off-above}
use Rattle.nest_elements.proofs.leaves_extent.Goals as goal

pub returns-then-x-lt0 : goal.returns-then-x-lt0
returns-then-x-lt0 c = let x = c.form_value-x in c.if-x-lt0.true ∙ off-below c.args.extent x.result _ c.requires.1 x.ensures.0
    x.ensures.1 c.if-x-lt0.true

pub returns-else-x-lt0 : goal.returns-else-x-lt0
returns-else-x-lt0 c = let x = c.form_value-x in off-above c.args.extent x.result _ c.requires.1 x.ensures.0
    x.ensures.1 c.if-x-lt0.false
