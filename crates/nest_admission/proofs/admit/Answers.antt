-- `admit`: by few points, by the ranges, by more points or by all.
use mathlib.Core.Path.{sym}
use native.Mathlib.Omega.{arith}
use Rattle.nest_bounding_box.proofs.InsideLaws.{stays-admitted}
use Rattle.nest_admission.proofs.AdmissionLaws.{enumerate-in, enumerate-many}
use Rattle.nest_admission.proofs.admit.Goals as goal

pub admit_by_points-requires : goal.admit_by_points-requires
admit_by_points-requires c = enumerate-in _ c.args.count c.requires 128 (omega arith)

pub stays_inside-requires : goal.stays_inside-requires
stays_inside-requires c = c.requires.nest.flat-nest

pub returns-then-stays_inside : goal.returns-then-stays_inside
returns-then-stays_inside c =
    let i = c.stays_inside in
    sym (stays-admitted _ i.result i.ensures c.if-stays_inside.true c.requires.nest.space-accepted)

pub admit_by_points-requires-then-count-le256 : goal.admit_by_points-requires-then-count-le256
admit_by_points-requires-then-count-le256 c =
    enumerate-in _ c.args.count c.requires 1024 (omega arith)

pub admit_many-requires : goal.admit_many-requires
admit_many-requires c = enumerate-many _ c.args.count c.requires
