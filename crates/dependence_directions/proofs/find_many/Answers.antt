-- `find_many`: 9, or the lines by the points.
use mathlib.Core.Path.{refl}
use Prim.Native.Nat.{◌*◌}
use native.Mathlib.Omega.{arith}
use Rattle.std.proofs.lemmas.Result.{err_from_is_err_and}
use Rattle.nest_admission.proofs.AdmissionLaws.{list-in}
use Rattle.dependence_directions.proofs.SearchResultLaws.{finds-refused, finds-fine, markable}
use Rattle.model.specs.Grammar.{ticket_loops, most_points}
use Rattle.dependence_directions.proofs.find_many.Goals as goal

pub returns-in_err-admit_many : goal.returns-in_err-admit_many
returns-in_err-admit_many c = let p = err_from_is_err_and c.from_residual.result c.from_residual.ensures.1 in
    rw (p.1, p.2) (finds-refused _ _ c.in_err-admit_many.ensures _ refl c.args.marks.now)

pub mark_many-requires : goal.mark_many-requires
mark_many-requires c = let r = c.requires.2 in let z = c.clear_marks.ensures in (
  markable _ _ c.in_ok-admit_many.ensures refl c.requires.0 _ z.0 (omega (arith, z.1)),
  list-in _ (ticket_loops * most_points) c.requires.1,
)

pub returns : goal.returns
returns c = finds-fine _ _ c.in_ok-admit_many.ensures refl _ c.mark_many.ensures.0
