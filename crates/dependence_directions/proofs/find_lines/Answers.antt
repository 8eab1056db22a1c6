-- `find_lines`: few points, or many: without them, or by them.
use native.Mathlib.Omega.{arith}
use Rattle.nest_admission.proofs.AdmissionLaws.{enumerate-many}
use Rattle.dependence_directions.proofs.SearchResultLaws.{mark-in, finds-known}
use Rattle.dependence_directions.proofs.find_lines.Goals as goal

pub mark_lines-requires : goal.mark_lines-requires
mark_lines-requires c = mark-in _ c.args.count c.args.marks.now c.requires

pub returns-then-mark_lines : goal.returns-then-mark_lines
returns-then-mark_lines c = finds-known _ _ (c.mark_lines.ensures.0 c.if-mark_lines.true)

pub find_many-requires : goal.find_many-requires
find_many-requires c = let h = c.requires in (
  h.points-counted.nest,
  enumerate-many _ c.args.count h.points-counted,
  let r = h.room in omega (arith, c.mark_lines.ensures.1),
)
