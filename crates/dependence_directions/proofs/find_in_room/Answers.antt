-- `find_in_room`: 9, or the lines.
use mathlib.Core.Path.{refl}
use Rattle.std.proofs.lemmas.Result.{err_from_is_err_and}
use Rattle.dependence_directions.proofs.SearchResultLaws.{finds-refused, finds-fine, enumerated-lines}
use Rattle.dependence_directions.proofs.find_in_room.Goals as goal

pub returns-in_err-enumerate : goal.returns-in_err-enumerate
returns-in_err-enumerate g c = let p = err_from_is_err_and c.from_residual.result c.from_residual.ensures.1 in
    rw (p.1, p.2) (finds-refused _ _ c.in_err-enumerate.ensures.same _ refl c.args.marks.now)

pub mark_few-requires : goal.mark_few-requires
mark_few-requires g c = (
  enumerated-lines _ c.args.count c.args.marks.now c.requires.0 _ _ _ c.in_ok-enumerate.ensures refl,
  c.requires.1,
)

pub returns : goal.returns
returns g c = finds-fine _ _ c.in_ok-enumerate.ensures.same refl _ c.mark_few.ensures.0
