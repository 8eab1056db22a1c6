-- `find_violation_by_ranges`: by the ranges, or by the points.
use mathlib.Core.Path.{sym}
use Rattle.nest_admission.proofs.find_violation_by_ranges.Goals as goal

pub stays_inside-requires : goal.stays_inside-requires
stays_inside-requires c = c.requires.violation.flat-nest

pub returns-then-stays_inside : goal.returns-then-stays_inside
returns-then-stays_inside c = sym (c.stays_inside.ensures c.if-stays_inside.true c.requires.space-accepted)

pub find_violation-requires : goal.find_violation-requires
find_violation-requires c = c.requires.violation

pub returns : goal.returns
returns c = c.find_violation.ensures
