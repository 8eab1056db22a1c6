-- `flat_nest_covered`: all pairs of the accesses that are in use.
use mathlib.Core.Path.{sym}
use Rattle.nest_flat.specs.FlatNests.{FlatNest, flat}
use Rattle.nest_flat.proofs.FlatNestLaws.{words_count, accessed-count, extents-count}
use Rattle.dependence_marks.proofs.MarkLaws.{statements-count, writes-count}
use Rattle.dependence_bounds.proofs.FewLaws.{pairs-in, all-covered}
use Rattle.dependence_bounds.proofs.flat_nest_covered.Goals as goal

pub slice_bounds-lent-end : goal.slice_bounds-lent-end
slice_bounds-lent-end c =
    let flat-nest : FlatNest = flat c.args.nest.now in
    sym
    (words_count flat-nest c.requires.flat-nest)

pub slice_bounds-lent-end-2 : goal.slice_bounds-lent-end-2
slice_bounds-lent-end-2 c =
    let flat-nest : FlatNest = flat c.args.nest.now in
    sym
    (accessed-count flat-nest c.requires.flat-nest)

pub slice_bounds-lent-end-3 : goal.slice_bounds-lent-end-3
slice_bounds-lent-end-3 c =
    let flat-nest : FlatNest = flat c.args.nest.now in
    sym
    (extents-count flat-nest c.requires.flat-nest)

pub slice_bounds-lent-end-4 : goal.slice_bounds-lent-end-4
slice_bounds-lent-end-4 c =
    let flat-nest : FlatNest = flat c.args.nest.now in
    let u = c.uses_of-uses in sym
    (statements-count flat-nest c.requires.flat-nest u.result u.ensures)

pub slice_bounds-lent-end-5 : goal.slice_bounds-lent-end-5
slice_bounds-lent-end-5 c =
    let flat-nest : FlatNest = flat c.args.nest.now in
    let u = c.uses_of-uses in sym
    (writes-count flat-nest c.requires.flat-nest u.result u.ensures)

pub pairs_covered-requires : goal.pairs_covered-requires
pairs_covered-requires c =
    let flat-nest : FlatNest = flat c.args.nest.now in
    let u = c.uses_of-uses in pairs-in flat-nest
    c.args.ranges c.args.marks.now c.requires u.result u.ensures

pub returns : goal.returns
returns c =
    let flat-nest : FlatNest = flat c.args.nest.now in
    let u = c.uses_of-uses in all-covered flat-nest
    c.args.ranges c.args.marks.now c.requires u.result u.ensures c.pairs_covered.result c.pairs_covered.ensures
