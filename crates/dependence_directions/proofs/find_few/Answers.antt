-- `find_few`: room for few points or for more.
use native.Mathlib.Omega.{arith}
use Rattle.nest_admission.proofs.AdmissionLaws.{enumerate-in}
use Rattle.dependence_directions.proofs.find_few.Goals as goal

pub find_in_room-requires : goal.find_in_room-requires
find_in_room-requires c = (
  c.requires.0,
  c.requires.1,
  enumerate-in _ c.args.count c.requires.0.points-counted 128 (omega arith),
  omega arith,
)

pub find_in_room-requires-2 : goal.find_in_room-requires-2
find_in_room-requires-2 c = (
  c.requires.0,
  c.requires.1,
  enumerate-in _ c.args.count c.requires.0.points-counted 1024 (omega (arith, c.requires.1)),
  omega arith,
)
