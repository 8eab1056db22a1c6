-- `mark_admitted`: the corner, and then the centre with clear marks.
use mathlib.Core.Path.{◌∙◌}
use Rattle.nest_flat.specs.FlatNests.{flat}
use Rattle.dependence_bounds.proofs.BoundLaws.{bound-again}
use Rattle.dependence_bounds.proofs.mark_admitted.Goals as goal

pub returns-then-mark_part : goal.returns-then-mark_part
returns-then-mark_part c = let m = c.mark_part in (λ e. m.ensures.0 c.if-mark_part.true, m.ensures.1)

pub mark_part-requires-2 : goal.mark_part-requires-2
mark_part-requires-2 c = let r = c.ranges_in_turn-ranges in let m = c.mark_part in let z = c.clear_marks.ensures in (
  bound-again (flat c.args.nest.now) c.args.marks.now _ c.requires z.0
      (z.1 ∙ m.ensures.1),
  r.ensures,
)
