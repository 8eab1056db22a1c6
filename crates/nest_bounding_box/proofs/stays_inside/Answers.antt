-- `stays_inside`: the parts of the flat nest that are in use, over the ranges of its loops.
use mathlib.Core.Path.{sym}
use Rattle.nest_flat.specs.FlatNests.{FlatNest, flat}
use Rattle.nest_flat.proofs.FlatNestLaws.{words_count, accessed-count, extents-count}
use Rattle.nest_bounding_box.proofs.InsideLaws.{arrays-enclosed}
use Rattle.nest_bounding_box.proofs.stays_inside.Goals as goal

pub slice_bounds-all_fit-end : goal.slice_bounds-all_fit-end
slice_bounds-all_fit-end c =
    let flat-nest : FlatNest = flat c.args.nest.now in
    sym (words_count flat-nest c.requires)

pub slice_bounds-all_fit-end-2 : goal.slice_bounds-all_fit-end-2
slice_bounds-all_fit-end-2 c =
    let flat-nest : FlatNest = flat c.args.nest.now in
    sym (accessed-count flat-nest c.requires)

pub slice_bounds-all_fit-end-3 : goal.slice_bounds-all_fit-end-3
slice_bounds-all_fit-end-3 c =
    let flat-nest : FlatNest = flat c.args.nest.now in
    sym
    (extents-count flat-nest c.requires)

pub returns : goal.returns
returns c =
    let flat-nest : FlatNest = flat c.args.nest.now in
    λ e. let r = c.ranges_in_turn-ranges in arrays-enclosed flat-nest c.requires r.result r.ensures
    (c.all_fit.ensures e)
