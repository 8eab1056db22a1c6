-- `admit_many`: by the ranges, or by the points, which are not kept.
use mathlib.Core.Path.{sym}
use Rattle.nest_bounding_box.proofs.InsideLaws.{stays-admitted}
use Rattle.nest_admission.proofs.admit_many.Goals as goal

pub returns-then-stays_inside : goal.returns-then-stays_inside
returns-then-stays_inside c = let i = c.stays_inside in sym (stays-admitted _ i.result i.ensures c.if-stays_inside.true
    c.requires.space-accepted)
