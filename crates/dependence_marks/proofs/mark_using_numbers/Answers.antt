-- `mark_using_numbers`: the places of the accesses, their statements, then the search.
use mathlib.Core.Path.{sym}
use lib.ListN.{length}
use Rattle.dependence_marks.proofs.MarkLaws.{number_in, statements-count, writes-count, flat_in, rising, numbers-below, lines_are}
use Rattle.dependence_marks.proofs.mark_using_numbers.Goals as goal

pub number_accesses-requires : goal.number_accesses-requires
number_accesses-requires c = number_in _ c.args.points.now c.args.count c.args.marks.now
    c.requires.0 _ c.requires.1

pub slice_bounds-nest-end : goal.slice_bounds-nest-end
slice_bounds-nest-end c = let u = c.uses_of-uses in sym (statements-count _ c.requires.0.violation.flat-nest u.result u.ensures)

pub slice_bounds-nest-end-2 : goal.slice_bounds-nest-end-2
slice_bounds-nest-end-2 c = let u = c.uses_of-uses in sym (writes-count _ c.requires.0.violation.flat-nest u.result u.ensures)

pub invariant_of-nest : goal.invariant_of-nest
invariant_of-nest c = let e = c.number_accesses in let u = c.uses_of-uses in record {
  flat_in = flat_in _ c.args.points.now c.args.count c.args.marks.now c.requires.0 (length c.args.numbers.now) c.requires.1 _ e.ensures
      u.result u.ensures;
  rising = rising _ c.args.points.now c.args.count c.args.marks.now c.requires.0 (length c.args.numbers.now) c.requires.1 _ e.ensures
      u.result u.ensures;
}

pub dependences-requires : goal.dependences-requires
dependences-requires c = let e = c.number_accesses in let u = c.uses_of-uses in let t = c.elements_in-elements in (
  c.requires.0.room,
  numbers-below _ c.args.points.now c.args.count c.args.marks.now c.requires.0
      (length c.args.numbers.now) c.requires.1 _ e.ensures u.result u.ensures t.result t.ensures,
)

pub returns : goal.returns
returns c = let d = c.dependences in let e = c.number_accesses in let u = c.uses_of-uses in
    let k = d.auto.marks in (
      lines_are _ c.args.points.now c.args.count c.args.marks.now c.requires.0 (length c.args.numbers.now) c.requires.1 _
          e.ensures u.result u.ensures _ k d.ensures,
      k,
    )
