-- `list_using_marks`: few points, or many: without them, or by them.
use borrow.Author.Rules.{rules}
use native.Mathlib.Omega.{arith}
use Rattle.nest_admission.proofs.AdmissionLaws.{enumerate-many}
use Rattle.dependence_directions.proofs.SearchResultLaws.{mark-in, finds-known}
use Rattle.entry_list.proofs.list_using_marks.Goals as goal

pub write_admitted-requires : goal.write_admitted-requires
write_admitted-requires c = record {
  points-counted = c.requires.points-counted;
  finds = c.find_few-few.ensures;
}

pub find_few-few-requires : goal.find_few-few-requires
find_few-few-requires c = (c.requires, omega arith)

pub mark_lines-requires : goal.mark_lines-requires
mark_lines-requires c = mark-in _ c.args.count c.args.marks.now c.requires

pub write_admitted-requires-then-mark_lines : goal.write_admitted-requires-then-mark_lines
write_admitted-requires-then-mark_lines c = record {
  points-counted = c.requires.points-counted;
  finds = finds-known _ _ (c.mark_lines.ensures.0 (search rules));
}

pub find_many-many-requires : goal.find_many-many-requires
find_many-many-requires c = (
  c.requires.points-counted.nest,
  enumerate-many _ c.args.count c.requires.points-counted,
  let r = c.requires.room in omega
      (arith, c.mark_lines.ensures.1),
)

pub write_admitted-requires-2 : goal.write_admitted-requires-2
write_admitted-requires-2 c = record {
  points-counted = c.requires.points-counted;
  finds = c.find_many-many.ensures;
}
