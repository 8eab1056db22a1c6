-- `admit_by_points`: the points, the search for a subscript that leaves its extent.
use Rattle.nest_admission.proofs.AdmissionLaws.{list-in, admits-by}
use Rattle.nest_admission.proofs.admit_by_points.Goals as goal

pub list_points-count-requires : goal.list_points-count-requires
list_points-count-requires c = list-in _ _ c.requires

pub find_violation-requires : goal.find_violation-requires
find_violation-requires c =
    record { flat-nest = c.requires.flat-nest; points-are = c.list_points-count.ensures.0 }

pub returns : goal.returns
returns c =
    let f = c.find_violation in
    admits-by _ c.requires.space-accepted f.result f.ensures c.violation_status.result c.violation_status.ensures
