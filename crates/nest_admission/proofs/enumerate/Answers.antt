-- `enumerate`: the points, the search for a subscript out of bounds.
use Rattle.nest_admission.proofs.AdmissionLaws.{list-in, find-in, enumerated}
use Rattle.nest_admission.proofs.enumerate.Goals as goal

pub list_points-count-requires : goal.list_points-count-requires
list_points-count-requires c = list-in _ _ c.requires

pub find_violation_by_ranges-requires : goal.find_violation_by_ranges-requires
find_violation_by_ranges-requires c = let l = c.list_points-count in find-in _
    c.args.points.now c.requires _ l.result l.ensures

pub returns : goal.returns
returns c =
    let l = c.list_points-count in
    let f = c.find_violation_by_ranges in
    enumerated _ c.args.points.now c.requires _ l.result l.ensures f.result f.ensures c.violation_status.result
    c.violation_status.ensures
